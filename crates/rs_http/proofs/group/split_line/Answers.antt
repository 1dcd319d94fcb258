-- The line before the first line feed, or bytes without one.
use Rattle.std.proofs.Common.{◌≡◌, ◌∙◌, ◌+◌, ◌-◌, ◌∷◌, List, ℕ, length, length-drop, take, drop, ap, sym, arith}
use Rattle.std.proofs.lemmas.List.{take_all}
use Rattle.rs_http.specs.Groups.{lines_of}
use Rattle.rs_http.proofs.Lines.{first_line, only_line}
use Rattle.rs_http.proofs.group.split_line.Goals as goal

pub returns-in-Some-clause-some : goal.returns-in-Some-clause-some
returns-in-Some-clause-some c =
    let bytes = c.args.bytes.now in
    let i = c.in-Some.i in
    let after : take (length bytes - (i + 1)) (drop (i + 1) bytes) ≡ drop (i + 1) bytes = take_all (length bytes - (i + 1)) (drop (i + 1) bytes) (omega (arith, length-drop (i + 1) bytes)) in
    first_line bytes i (sym c.in-Some.ensures)
    ∙ ap (λ (line : List ℕ). line ∷ lines_of (drop (i + 1) bytes)) (sym c.cut_return.ensures) ∙ ap (λ (rest : List ℕ). c.cut_return.result.now ∷ lines_of rest) (sym after)

pub returns-in-None-clause-none : goal.returns-in-None-clause-none
returns-in-None-clause-none c = only_line c.args.bytes.now (sym c.in-None.ensures)

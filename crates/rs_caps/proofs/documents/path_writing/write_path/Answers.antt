-- The pieces of a part's path, however they are grouped.
use Rattle.std.proofs.Common.{◌≡◌, ℕ, List, [], ◌++◌, OnOk, sym, ap, ◌∙◌, subst, append_assoc, append-nil}
use Rattle.std.specs.Prelude.{codes}
use Rattle.std.specs.Fmt.{decimal}
use Rattle.rs_io.specs.Watch.{Wrote}
use Rattle.rs_caps.specs.Paths.{path_of}
use Rattle.rs_caps.proofs.documents.path_writing.write_path.Goals as goal

five : (a b c d e : List ℕ) → a ++ (b ++ (c ++ (d ++ (e ++ [])))) ≡ (((a ++ b) ++ c) ++ d) ++ e
five a b c d e = ap (λ l. a ++ (b ++ (c ++ (d ++ l)))) (append-nil e) ∙ sym (simp append_assoc)

three : (a b c : List ℕ) → a ++ (b ++ (c ++ [])) ≡ (a ++ b) ++ c
three a b c = ap (λ l. a ++ (b ++ l)) (append-nil c) ∙ sym (append_assoc a b c)

pub returns-in-ResourcePart-clause-written : goal.returns-in-ResourcePart-clause-written
returns-in-ResourcePart-clause-written g c =
    let P : List ℕ → Type 0 = λ text. OnOk c.put_pieces.result (Wrote g.W.Write.contents c.args.out.now c.put_pieces.new.out text) in
    subst P (five (codes "/resourcelist/") (decimal c.in-ResourcePart.publication) (codes "/") (decimal c.in-ResourcePart.part) (codes ".xml") ∙ ap path_of (sym c.in-ResourcePart.is)) c.put_pieces.ensures.written

pub returns-in-ChangeHead-clause-written : goal.returns-in-ChangeHead-clause-written
returns-in-ChangeHead-clause-written g c =
    let P : List ℕ → Type 0 = λ text. OnOk c.put-in-ChangeHead.result (Wrote g.W.Write.contents c.args.out.now c.put-in-ChangeHead.new.self text) in
    subst P (ap path_of (sym c.in-ChangeHead.is)) c.put-in-ChangeHead.ensures.ok

pub returns-in-ChangePart-clause-written : goal.returns-in-ChangePart-clause-written
returns-in-ChangePart-clause-written g c =
    let P : List ℕ → Type 0 = λ text. OnOk c.put_pieces-in-ChangePart.result (Wrote g.W.Write.contents c.args.out.now c.put_pieces-in-ChangePart.new.out text) in
    subst P (three (codes "/changelist/") (decimal c.in-ChangePart.part) (codes ".xml") ∙ ap path_of (sym c.in-ChangePart.is)) c.put_pieces-in-ChangePart.ensures.written

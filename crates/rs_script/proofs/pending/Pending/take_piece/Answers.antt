-- The rest is cut at its first line feed.
use Rattle.std.proofs.Common.{◌≡◌, ◌++◌, ◌+◌, ◌-◌, ◌∙◌, List, ℕ, ap, append_assoc, append-nil, [], refl, arith, drop, length, sym, take, subst}
use Rattle.std.proofs.lemmas.Grind.{common_steps}
use Rattle.rs_script.specs.Lines.{with_break}
use Rattle.rs_script.specs.Statements.{AreWholeStatements}
use Rattle.rs_script.specs.Progress.{Progress, Answered, stand}
use Rattle.rs_script.proofs.Breaks.{before_break, no_break, piece_cut}
use Rattle.rs_script.proofs.Steps.{Progress-run, on_err}
use Rattle.rs_script.proofs.pending.Pending.take_piece.Goals as goal

pub loop-i-init : goal.loop-i-init
loop-i-init g c = (
  [],
  refl,
  λ begin input p. subst (λ (bytes : List ℕ). Progress g.D.Disk.state g.W.Write.contents begin bytes (stand c.args.self.now c.args.source.now c.args.writer.now)) (sym (append-nil input)) p,
  refl,
)

pub returns-in_err-take_line-clause-err : goal.returns-in_err-take_line-clause-err
returns-in_err-take_line-clause-err g c =
    let rest = c.loop-i.rest.now in
    let i = c.in-Some.i in
    let found = sym c.position_of.ensures ∙ c.in-Some.is in
    let inv = c.loop-i.invariant in
    let run = with_break (take i rest) in
    let here = stand c.take_line.new.self c.take_line.new.source c.take_line.new.writer in
    on_err c.from_residual.result (
      inv.0 ++ run,
      drop (i + 1) rest,
      piece_cut c.args.piece.now inv.0 rest i inv.1 found,
      λ begin input p.
          subst (λ (bytes : List ℕ). Answered g.D.Disk.state g.W.Write.contents begin bytes here × AreWholeStatements bytes) (append_assoc input inv.0 run)
          (c.in_err-take_line.ensures.err (before_break rest i found) begin (input ++ inv.0) (inv.2 begin input p)),
    )

pub loop-i-preserved : goal.loop-i-preserved
loop-i-preserved g c =
    let rest = c.loop-i.rest.now in
    let i = c.in-Some.i in
    let found = sym c.position_of.ensures ∙ c.in-Some.is in
    let inv = c.loop-i.invariant in
    let run = with_break (take i rest) in
    let here = stand c.take_line.new.self c.take_line.new.source c.take_line.new.writer in
    let all : take (length rest - (i + 1)) (drop (i + 1) rest) ≡ drop (i + 1) rest = grind (arith, common_steps) in (
      inv.0 ++ run,
      piece_cut c.args.piece.now inv.0 rest i inv.1 found ∙ ap (λ z. (inv.0 ++ run) ++ z) (sym all),
      λ begin input p.
          subst (λ (bytes : List ℕ). Progress g.D.Disk.state g.W.Write.contents begin bytes here) (append_assoc input inv.0 run)
          (c.in_ok-take_line.ensures.ok (before_break rest i found) begin (input ++ inv.0) (inv.2 begin input p)),
      c.in_ok-take_line.ensures.sound ∙ inv.3,
    )

pub returns-clause-ok : goal.returns-clause-ok
returns-clause-ok g c = λ begin input p.
    let inv = c.loop-i.invariant in
    let self = c.loop-i.self in
    let here = stand (record { between = self.between; line = c.extend.new.self }) c.loop-i.source c.loop-i.writer in
    subst (λ (bytes : List ℕ). Progress g.D.Disk.state g.W.Write.contents begin bytes here)
    (append_assoc input inv.0 c.loop-i.rest.now ∙ ap (λ z. input ++ z) (sym inv.1))
    (Progress-run g.D.Disk.state g.W.Write.contents begin (input ++ inv.0) (stand self c.loop-i.source c.loop-i.writer) c.loop-i.rest.now c.extend.new.self
    (no_break c.loop-i.rest.now (sym c.position_of.ensures ∙ c.in_default.is)) c.extend.ensures (inv.2 begin input p))

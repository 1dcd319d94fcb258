-- A line in no group, the last line of a group, or one before it.
use Rattle.std.proofs.Common.{◌-◌, ◌∙◌, Some, refl, sym, subst, arith, Option}
use Rattle.rs_io.specs.Watch.{Wrote}
use Rattle.rs_script.proofs.FromBelow.{wrote_nothing}
use Rattle.rs_script.specs.declared.group.Taking.{Taking}
use Rattle.rs_script.specs.Session.{script_state}
use Rattle.rs_script.specs.Taken.{KeepsGroup}
use Rattle.rs_script.proofs.LineTaking.{more_taken, group_done, group_goes_on}
use Rattle.rs_script.proofs.statement.BetweenLines.take_content.Goals as goal

pub returns-in_default-clause-taken : goal.returns-in_default-clause-taken
returns-in_default-clause-taken g c = λ line is begun kept.
    c.take_first.ensures.taken line is begun (subst (λ (group : Option Taking). KeepsGroup group begun) (sym c.take.ensures.value ∙ c.in_default.is ∙ sym c.take.ensures.after) kept)

pub returns-then-taking-eq0-clause-taken : goal.returns-then-taking-eq0-clause-taken
returns-then-taking-eq0-clause-taken g c = λ line is begun kept.
    group_done g.D.Disk.state (script_state c.args.source.now c.args.self.now.moment) (script_state c.answer_group.new.source c.args.self.now.moment) begun line _
    c.args.self.now.group c.take.new.self c.in-Some.taking c.with_line-items.result (sym c.take.ensures.value ∙ c.in-Some.is) c.take.ensures.after
    c.if-taking-eq0.true (λ lines has. c.with_line-items.ensures line lines is has) c.answer_group.ensures.answered kept

pub returns-clause-taken : goal.returns-clause-taken
returns-clause-taken g c = λ line is begun kept.
    let old = script_state c.args.source.now c.args.self.now.moment in
    let next : Taking = record { later = c.in-Some.taking.later - 1; items = c.with_line-items.result } in
    more_taken g.D.Disk.state old old begun line (Wrote g.W.Write.contents c.args.writer.now c.args.writer.now) (Some next)
    (group_goes_on g.D.Disk.state old old begun line (λ _. ⊥) c.args.self.now.group c.in-Some.taking next (sym c.take.ensures.value ∙ c.in-Some.is) (omega (arith, c.if-taking-eq0.false))
    (λ lines has. c.with_line-items.ensures line lines is has) kept)
    refl (wrote_nothing g.W.Write.contents c.args.writer.now)

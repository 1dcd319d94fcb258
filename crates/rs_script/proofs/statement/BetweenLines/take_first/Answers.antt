-- A group is begun, or a line is answered by itself.
use Rattle.std.proofs.Common.{◌≡◌, ◌++◌, ◌∷◌, ◌∙◌, [], ap, List, ℕ, refl, subst, sym, Some}
use Rattle.rs_io.specs.Watch.{Wrote}
use Rattle.rs_script.proofs.FromBelow.{wrote_nothing}
use Rattle.rs_script.specs.Session.{script_state}
use Rattle.rs_script.specs.Statements.{single}
use Rattle.rs_script.specs.Taken.{KeepsGroup}
use Rattle.rs_script.proofs.Grouped.{none_kept}
use Rattle.rs_script.proofs.LineTaking.{one_taken, more_taken}
use Rattle.rs_script.proofs.statement.BetweenLines.take_first.Goals as goal

pub returns-in-Some-clause-taken : goal.returns-in-Some-clause-taken
returns-in-Some-clause-taken g c = λ line is begun kept.
    let none : [] ≡ begun = sym (none_kept c.args.self.now.group begun c.requires.none kept) in
    let begins = c.begin_group.ensures line (sym (c.size_begun.ensures.value line is) ∙ c.in-Some.is) in
    more_taken g.D.Disk.state (script_state c.args.source.now c.args.self.now.moment) (script_state c.args.source.now c.args.self.now.moment) begun line (Wrote g.W.Write.contents c.args.writer.now c.args.writer.now)
    (Some c.begin_group.result) (subst (λ (lines : List (List ℕ)). KeepsGroup (Some c.begin_group.result) (lines ++ line ∷ [])) none begins) refl
    (wrote_nothing g.W.Write.contents c.args.writer.now)

pub returns-in-None-clause-taken : goal.returns-in-None-clause-taken
returns-in-None-clause-taken g c = λ line is begun kept.
    one_taken g.D.Disk.state (script_state c.args.source.now c.args.self.now.moment) (script_state c.answer_content.new.source c.answer_content.new.now) begun line _
    c.args.self.now.group (single line) (ap (λ lines. lines ++ line ∷ []) (sym (none_kept c.args.self.now.group begun c.requires.none kept)))
    (sym (c.size_begun.ensures.value line is) ∙ c.in-None.is) c.requires.none (c.answer_content.ensures.answered line is)

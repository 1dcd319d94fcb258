use Rattle.std.proofs.Common.{sym, ap, ◌∙◌}
use Rattle.std.specs.Prelude.{option_copied}
use Rattle.rs_model.proofs.DropLemmas.{last_of}
use Rattle.rs_model.proofs.state.dropped.last_moment.Goals as goal

pub returns-in-Some : goal.returns-in-Some
returns-in-Some c =
    sym (last_of c.args.before c.args.changes.now c.in-Some.change.now
    (sym c.last.ensures.value ∙ ap option_copied c.in-Some.is))

use Rattle.std.proofs.Common.{◌≡◌, drop}
use Rattle.rs_model.specs.Step.{fold_of}
use Rattle.rs_model.proofs.state.State.fold.Given as goal

abbrev pub invariant-loop-command : goal.invariant-loop-command
invariant-loop-command l = fold_of l.state (drop l.command-index l.commands) ≡ fold_of l.self l.commands

use Rattle.std.proofs.Common.{◌≡◌, length, map, take}
use Rattle.rs_model.specs.Step.{is_held}
use Rattle.rs_model.specs.Grouping.{name_of}
use Rattle.rs_model.proofs.state.State.group_refusal.Given as goal

abbrev pub invariant-loop-i : goal.invariant-loop-i
invariant-loop-i l = (length l.held ≡ 16) × (take l.i l.held ≡ map (λ item. is_held l.self (name_of item)) (take l.i l.items))

use Rattle.std.proofs.Common.{◌≡◌, map, take}
use Rattle.rs_model.specs.State.{entries}
use Rattle.rs_model.specs.Listed.{record_of}
use Rattle.rs_model.proofs.state.records.Given as goal

abbrev pub invariant-loop-name : goal.invariant-loop-name
invariant-loop-name l = l.records.items ≡ map record_of (entries (take l.name-index l.held))

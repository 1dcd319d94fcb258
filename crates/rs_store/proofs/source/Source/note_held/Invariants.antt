-- The first items are noted so far.
use Rattle.std.proofs.Common.{◌≡◌, length, map, take}
use Rattle.rs_model.specs.Grouping.{name_of}
use Rattle.rs_model.specs.Step.{is_held}
use Rattle.rs_store.specs.Source.{state_of}
use Rattle.rs_store.proofs.source.Source.note_held.Given as goal

abbrev pub invariant-loop-i : goal.invariant-loop-i
invariant-loop-i g l = record {
  noted : take l.i l.held ≡ map (λ item. is_held (state_of g.D.Disk.state l.self) (name_of item)) (take l.i l.items);
  size : length l.held ≡ length l.initial.held;
}

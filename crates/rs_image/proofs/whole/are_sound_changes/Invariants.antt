use Rattle.std.proofs.Common.{All, take}
use Rattle.rs_changes.specs.History.{changes_of}
use Rattle.rs_image.specs.Whole.{IsSoundChange}
use Rattle.rs_image.proofs.whole.are_sound_changes.Given as goal

abbrev pub invariant-loop-i : goal.invariant-loop-i
invariant-loop-i l = All (IsSoundChange l.low l.high) (take l.i (changes_of l.history.pages))

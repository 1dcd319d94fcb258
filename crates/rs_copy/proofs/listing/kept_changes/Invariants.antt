use Rattle.std.proofs.Common.{◌≡◌, take}
use Rattle.rs_changes.specs.History.{changes_of}
use Rattle.rs_copy.proofs.listing.kept_changes.Given as goal

abbrev pub invariant-loop-i : goal.invariant-loop-i
invariant-loop-i l = l.changes.items ≡ take l.i (changes_of l.history.pages)

use Rattle.std.proofs.Common.{List, length}
use Rattle.rs_page.specs.declared.place.PageRef.{PageRef}
use Rattle.rs_directory.specs.Directory.{AreEntries}
use Rattle.rs_image.proofs.Named.{Left}
use Rattle.rs_image.proofs.placed.are_placed.Given as goal

abbrev pub invariant-loop-page : goal.invariant-loop-page
invariant-loop-page l = (pages : List PageRef) → AreEntries l.entries pages → Left l.size pages l.rest

abbrev pub decreases-loop-page : goal.decreases-loop-page
decreases-loop-page l = length l.rest

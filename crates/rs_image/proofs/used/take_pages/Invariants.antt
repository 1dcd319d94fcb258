use Rattle.std.proofs.Common.{◌≤◌, length, drop}
use Rattle.rs_extent.specs.Extents.{AreTaken}
use Rattle.rs_page.specs.Pages.{extents_of}
use Rattle.rs_image.proofs.used.take_pages.Given as goal

abbrev pub invariant-loop-i : goal.invariant-loop-i
invariant-loop-i l =
    record {
      few : l.i ≤ length l.pages;
      taken : AreTaken l.initial.used l.used (extents_of (drop l.i l.pages));
    }

abbrev pub decreases-loop-i : goal.decreases-loop-i
decreases-loop-i l = l.i

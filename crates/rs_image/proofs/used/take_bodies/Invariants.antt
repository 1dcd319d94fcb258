use Rattle.std.proofs.Common.{◌≤◌, length, drop}
use Rattle.rs_extent.specs.Extents.{AreTaken}
use Rattle.rs_catalogue.specs.Catalogue.{records_of}
use Rattle.rs_image.specs.Reach.{bodies_of}
use Rattle.rs_image.proofs.used.take_bodies.Given as goal

abbrev pub invariant-loop-i : goal.invariant-loop-i
invariant-loop-i l =
    record {
      few : l.i ≤ length (records_of l.catalogue);
      taken : AreTaken l.initial.used l.used (bodies_of (drop l.i (records_of l.catalogue)));
    }

abbrev pub decreases-loop-i : goal.decreases-loop-i
decreases-loop-i l = l.i

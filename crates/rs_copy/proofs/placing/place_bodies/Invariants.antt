-- The first bodies took blocks so far.
use Rattle.std.proofs.Common.{take}
use Rattle.std.specs.List.{AllZip}
use Rattle.rs_catalogue.specs.Catalogue.{records_of}
use Rattle.rs_image.specs.Reach.{bodies_of}
use Rattle.rs_plan.specs.Room.{TakesEach}
use Rattle.rs_copy.specs.Laying.{IsMoved, records_needed}
use Rattle.rs_copy.proofs.placing.place_bodies.Given as goal

abbrev pub invariant-loop-i : goal.invariant-loop-i
invariant-loop-i l =
    let first = take l.i (records_of l.catalogue) in
    record {
      records : AllZip IsMoved first l.held.items;
      found : TakesEach l.fn.used (records_needed first) (bodies_of l.held.items) l.used;
    }

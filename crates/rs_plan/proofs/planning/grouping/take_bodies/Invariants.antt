-- The blocks that the remaining bodies take complete the taken ones, and where they have no room, all bodies together
-- have no room.
use Rattle.std.proofs.Common.{◌≤◌, ◌+◌, ◌++◌, List, Bool, length, vec_len, vec_capacity}
use Rattle.std.specs.List.{AllByRecursion}
use Rattle.rs_extent.specs.declared.Extent.{Extent}
use Rattle.rs_extent.specs.Extents.{AreTaken}
use Rattle.rs_plan.specs.Allowed.{IsShort}
use Rattle.rs_plan.specs.Room.{HasNoRoom, TakesEach, bodies_kept, bodies_needed}
use Rattle.rs_plan.proofs.planning.grouping.take_bodies.Given as goal

abbrev pub invariant-loop-item : goal.invariant-loop-item
invariant-loop-item l =
    record {
      short : AllByRecursion IsShort l.rest;
      taken : AreTaken l.initial.used l.used l.bodies.items;
      room : vec_len l.bodies + length l.rest ≤ vec_capacity l.bodies;
      takes : (more : List Extent) (after : List Bool) → TakesEach l.used (bodies_needed (bodies_kept l.rest)) more after
          → TakesEach l.initial.used (bodies_needed (bodies_kept l.items)) (l.bodies.items ++ more) after;
      full : HasNoRoom l.used (bodies_needed (bodies_kept l.rest)) → HasNoRoom l.initial.used (bodies_needed (bodies_kept l.items));
    }

abbrev pub decreases-loop-item : goal.decreases-loop-item
decreases-loop-item l = length l.rest

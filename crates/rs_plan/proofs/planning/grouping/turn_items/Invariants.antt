-- The lists after the remaining items are those after all items. The blocks freed before, followed by those that the
-- remaining items free, are the blocks that all items free.
use Rattle.std.proofs.Common.{◌≡◌, ◌++◌, length}
use Rattle.rs_plan.specs.Freed.{freed_page, freed_history_page, extent_of_body}
use Rattle.rs_plan.specs.Turned.{MayDoEach, lists_after_items, of_each_item}
use Rattle.rs_plan.proofs.planning.grouping.turn_items.Given as goal

abbrev pub invariant-loop-item : goal.invariant-loop-item
invariant-loop-item l =
    record {
      may : MayDoEach l.lists l.rest l.ms l.left;
      lists_are : lists_after_items l.lists l.rest l.ms l.left ≡ lists_after_items l.old l.items l.fn.moment l.bodies;
      pages : l.freed.pages.items ++ of_each_item freed_page l.lists l.rest l.ms l.left ≡ of_each_item freed_page l.old l.items l.fn.moment l.bodies;
      history : l.freed.history_pages.items ++ of_each_item freed_history_page l.lists l.rest l.ms l.left
          ≡ of_each_item freed_history_page l.old l.items l.fn.moment l.bodies;
      bodies_are : l.freed.bodies.items ++ of_each_item extent_of_body l.lists l.rest l.ms l.left
          ≡ of_each_item extent_of_body l.old l.items l.fn.moment l.bodies;
    }

abbrev pub decreases-loop-item : goal.decreases-loop-item
decreases-loop-item l = length l.rest

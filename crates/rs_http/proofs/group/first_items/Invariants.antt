-- All items of the lines so far. The first ones are kept.
use Rattle.std.proofs.Common.{◌≡◌, List, length, take}
use Rattle.rs_model.specs.declared.command.Item.{Item}
use Rattle.rs_http.specs.Groups.{items_in}
use Rattle.rs_http.proofs.Lines.{behind}
use Rattle.rs_http.proofs.group.first_items.Given as goal

abbrev pub invariant-loop-line : goal.invariant-loop-line
invariant-loop-line l =
    record {
      done : List Item;
      so_far : items_in l.body ≡ behind done (items_in l.rest);
      kept : l.items.items ≡ take 17 done;
    }

abbrev pub decreases-loop-line : goal.decreases-loop-line
decreases-loop-line l = length l.rest

-- The part of a command that has no room: one of its bodies, or a part after them.
use Rattle.std.proofs.Common.{inl, inr, ℕ, Bool, List, [], ◌∷◌, ◌++◌, subst}
use Rattle.rs_extent.specs.declared.Extent.{Extent}
use Rattle.rs_model.specs.declared.command.Command.{Command}
use Rattle.rs_image.specs.Rooted.{Rooted, AreUsed}
use Rattle.rs_plan.specs.Plans.{IsFullFor, lists_after}
use Rattle.rs_plan.specs.Room.{HasNoRoom, TakesEach, bodies_needed, bodies_of_command, lists_needed}
use Rattle.rs_plan.proofs.Anywhere.{needed_anywhere}

none_before : (used : List Bool) (ns ms : List ℕ) → HasNoRoom used ns → HasNoRoom used (ns ++ ms)
none_before used [] ms none = absurd none
none_before used (n ∷ ns) ms none = elim none [
  | inl here ↦ inl here
  | inr later ↦ inr (later.0, later.1, later.2, none_before later.0 ns ms later.3)
]

none_after : (used after : List Bool) (ns ms : List ℕ) (extents : List Extent) → TakesEach used ns extents after → HasNoRoom after ms → HasNoRoom used (ns ++ ms)
none_after used after [] ms [] takes none = subst (λ (u : List Bool). HasNoRoom u ms) takes none
none_after used after [] ms (e ∷ es) takes none = absurd takes
none_after used after (n ∷ ns) ms [] takes none = absurd takes
none_after used after (n ∷ ns) ms (e ∷ es) takes none = inr (takes.0, e, takes.1, none_after takes.0 after ns ms es takes.2 none)

module _ (r : Rooted) (command : Command) (moment : ℕ) (used : List Bool) (are_used : AreUsed r used) where
  pub full_of_bodies : HasNoRoom used (bodies_needed (bodies_of_command command)) → IsFullFor r command moment
  full_of_bodies none = record {
    used = used;
    are_used = are_used;
    lacks = none_before used (bodies_needed (bodies_of_command command)) (lists_needed (lists_after r.contents command moment [])) none;
  }

  pub full_for : (bodies : List Extent) (after : List Bool) → TakesEach used (bodies_needed (bodies_of_command command)) bodies after
      → HasNoRoom after (lists_needed (lists_after r.contents command moment bodies)) → IsFullFor r command moment
  full_for bodies after takes none = record {
    used = used;
    are_used = are_used;
    lacks = none_after used after (bodies_needed (bodies_of_command command)) (lists_needed (lists_after r.contents command moment [])) bodies takes
        (subst (HasNoRoom after) (needed_anywhere r.contents command moment bodies) none);
  }

-- The decision on a group, from a few facts of a state.
use Rattle.std.specs.Prelude.{◌≡◌, ℕ, ◌+◌, ◌-◌, Bool, true, false, not, ◌&&◌, nat_lt, nat_le, max, IsTrue, List, [], ◌∷◌, length, map, Option, Some, if◌then◌else◌}
use Rattle.rs_time.specs.Moment.{greatest}
use Rattle.rs_record.specs.Limits.{longest_body}
use Rattle.rs_model.specs.declared.command.Item.{Item}
use Rattle.rs_model.specs.declared.command.Item.TheVariants as single
use Rattle.rs_model.specs.declared.grouping.Counts.{Counts}
use Rattle.rs_model.specs.declared.command.Refusal.{Refusal}
use Rattle.rs_model.specs.declared.command.Refusal.TheVariants.{TooLong, NotHeld, TooManyResources, TooManyChanges, Exhausted}
use Rattle.rs_model.specs.Names.{by_bytes, is_ordered}
use Rattle.rs_model.specs.State.{Source, most_resources, most_changes}
use Rattle.rs_model.specs.Step.{first_cause, is_held}
use Rattle.std.specs.Ordering.{is_eq}

-- the name of an item
abbrev pub name_of : Item → List ℕ
name_of (single.Put name kind bytes) = name
name_of (single.Delete name) = name

-- The facts of a state whose names are in order: whether the names of these items are held, the number of resources and
-- of changes, and the moment of the last command.
pub record IsBefore (s : Source) (items : List Item) (held : List Bool) (counts : Counts) : Type 0 where
  pub ordered : IsTrue (is_ordered s.held)
  pub held_is : held ≡ map (λ item. is_held s (name_of item)) items
  pub resources : counts.resources ≡ length s.held
  pub changes : counts.changes ≡ length s.changes
  pub last : counts.last ≡ s.last

-- an item leaves its name held
abbrev pub leaves_held : Item → Bool
leaves_held (single.Put name kind bytes) = true
leaves_held (single.Delete name) = false

-- whether a name is held after these items: as the last item of that name leaves it, or as it was before
abbrev pub held_after : List Item → Bool → List ℕ → Bool
held_after [] held name = held
held_after (item ∷ items) held name = held_after items (if is_eq (by_bytes name (name_of item)) then leaves_held item else held) name

-- the refusal of a change that the resources allow, from the facts
abbrev pub change_refusal_by : Counts → Option Refusal
change_refusal_by counts = first_cause ((nat_le most_changes counts.changes, TooManyChanges) ∷ (nat_le greatest counts.last, Exhausted) ∷ [])

-- the refusal of a put, from the facts and whether its name is held
abbrev pub put_refusal_by : List ℕ → Bool → Counts → Option Refusal
put_refusal_by bytes held counts =
    if nat_lt longest_body (length bytes) then Some TooLong else
    if not held && nat_le most_resources counts.resources then Some TooManyResources else
    change_refusal_by counts

-- the refusal of a delete
abbrev pub delete_refusal_by : Bool → Counts → Option Refusal
delete_refusal_by held counts = if held then change_refusal_by counts else Some NotHeld

-- the refusal of an item
abbrev pub item_refusal_by : Item → Bool → Counts → Option Refusal
item_refusal_by (single.Put name kind bytes) held counts = put_refusal_by bytes held counts
item_refusal_by (single.Delete name) held counts = delete_refusal_by held counts

-- the number of resources held after an item
abbrev pub resources_after : Item → Bool → ℕ → ℕ
resources_after (single.Put name kind bytes) held resources = if held then resources else resources + 1
resources_after (single.Delete name) held resources = resources - 1

-- the facts after an accepted item that comes at `now`
abbrev pub counts_after_item : Item → Bool → Counts → ℕ → Counts
counts_after_item item held counts now =
    record {
      resources = resources_after item held counts.resources;
      changes = counts.changes + 1;
      last = max now (counts.last + 1);
    }

-- The kept part of a group that lacks lines.
use Rattle.std.specs.Prelude.{◌≡◌, ◌⊎◌, ℕ, ◌+◌, List, [], ◌∷◌, length, Option, Some, None, Result, Ok, Err, Vec}
use Rattle.std.specs.Global.{Global}
use Rattle.rs_model.specs.declared.command.Item.{Item}
use Rattle.rs_script.specs.declared.group.Taking.{Taking}
use Rattle.rs_script.specs.declared.refusal.Refusal.{Refusal}
use Rattle.rs_script.specs.declared.refusal.Refusal.TheVariants.{Line}
use Rattle.rs_items.specs.declared.item.ItemFault.TheVariants.{NoMemory}
use Rattle.rs_script.specs.Room.{GroupTakesRoom}
use Rattle.rs_script.specs.Statements.{group_size, items_of_group}

-- the items of these lines, or their first refusal; or there was no memory for one of them
abbrev pub KeepsItems : Result (Vec Item Global) Refusal → List (List ℕ) → Type 0
KeepsItems (Ok items) lines = items_of_group lines ≡ Ok items.items
KeepsItems (Err refusal) lines = (items_of_group lines ≡ Err refusal) ⊎ ((refusal ≡ Line NoMemory) × GroupTakesRoom lines)

-- these lines of a group have come, and it lacks the next one and `later` more; or there is no group
abbrev pub KeepsGroup : Option Taking → List (List ℕ) → Type 0
KeepsGroup None part = part ≡ []
KeepsGroup (Some taking) part =
    (first : List ℕ) × (lines : List (List ℕ)) × (part ≡ first ∷ lines)
    × (group_size first ≡ Some (length lines + taking.later + 1)) × KeepsItems taking.items lines

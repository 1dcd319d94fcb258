-- The group that the body of a request asks for.
use Rattle.std.specs.Prelude.{◌≡◌, ℕ, Bool, ◌==◌, List, [], ◌∷◌, length, Option, None, Result, Ok, Err, if◌then◌else◌}
use Rattle.std.specs.List.{slice_split}
use Rattle.std.specs.Result.{result_ok}
use Rattle.rs_model.specs.declared.command.Item.{Item}
use Rattle.rs_store.specs.Received.{IsCut}
use Rattle.rs_store.specs.declared.refusal.Refusal.{Refusal}
use Rattle.rs_store.specs.declared.refusal.Refusal.TheVariants.{NoMemory}
use Rattle.rs_items.specs.Items.{item_of_line}
use Rattle.rs_items.specs.Lines.{cut_return, last_line}
use Rattle.rs_items.specs.declared.item.ItemFault.{ItemFault}

-- a line ends with a line feed (byte 10)
abbrev pub is_break : ℕ → Bool
is_break b = b == 10

-- The lines of the texts between line feeds. A line feed ends every text but the last, and a carriage return right
-- before it is cut off.
abbrev pub lines_between : List (List ℕ) → List (List ℕ)
lines_between [] = []
lines_between (raw ∷ []) = last_line raw
lines_between (raw ∷ next ∷ raws) = cut_return raw ∷ lines_between (next ∷ raws)

-- the lines of a body, by the rules of a script
abbrev pub lines_of : List ℕ → List (List ℕ)
lines_of body = lines_between (slice_split is_break body)

-- an item before others, or the first fault
abbrev pub item_before : Result Item ItemFault → Result (List Item) ItemFault → Result (List Item) ItemFault
item_before (Err fault) others = Err fault
item_before (Ok item) (Err fault) = Err fault
item_before (Ok item) (Ok items) = Ok (item ∷ items)

-- the items of these lines, in their order, or the first fault
abbrev pub items_of_lines : List (List ℕ) → Result (List Item) ItemFault
items_of_lines [] = Ok []
items_of_lines (line ∷ lines) = item_before (item_of_line line) (items_of_lines lines)

-- all items of a body, or the fault of its first wrong line
abbrev pub items_in : List ℕ → Result (List Item) ItemFault
items_in body = items_of_lines (lines_of body)

-- the items that a group of n bytes asks for, if these bytes came: `None` if bytes are missing or a line has a fault
abbrev pub items_asked : ℕ → List ℕ → Option (List Item)
items_asked n came = if length came == n then result_ok (items_in came) else None

-- The reasons why n bytes of an input are not in memory, if these came and the rest is left. The reader failed or ended
-- within them; or there was no memory for them, and no byte came.
abbrev pub IsUnread : ℕ → Option (List ℕ) → List ℕ → Refusal → Type 0
IsUnread n rest came NoMemory = came ≡ []
IsUnread n rest came refusal = IsCut n rest came refusal

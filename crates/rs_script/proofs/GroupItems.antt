-- The items with that of one more line.
use Rattle.std.proofs.Common.{◌≡◌, ◌⊎◌, inl, inr, List, ℕ, [], ◌∷◌, ◌++◌, Bool, true, false, Result, Ok, Err, Vec, Global, refl, sym, ◌∙◌, ap, append_assoc, codes, nat_eq, nat_lt, length, if◌then◌else◌}
use Rattle.std.specs.Prelude.{is_ok}
use Rattle.std.specs.List.{starts_with}
use Rattle.rs_items.specs.Items.{item_of_line}
use Rattle.rs_items.specs.declared.item.ItemFault.TheVariants as fault
use Rattle.rs_model.specs.declared.command.Item.{Item}
use Rattle.rs_script.specs.declared.refusal.Refusal.{Refusal}
use Rattle.rs_script.specs.declared.refusal.Refusal.TheVariants.{LongLine, Line}
use Rattle.rs_script.specs.Lines.{line_limit}
use Rattle.rs_script.specs.Requests.{begins_item}
use Rattle.rs_script.specs.Room.{TakesRoom, GroupTakesRoom}
use Rattle.rs_script.specs.Statements.{or_refused, grouped_item, and_items, items_of_group}
use Rattle.rs_script.specs.Taken.{KeepsItems}
use Rattle.rs_script.proofs.ForeignLemmas.{either_false, is_no_item}

-- items, and then one more
then_item : Result (List Item) Refusal → Result Item Refusal → Result (List Item) Refusal
then_item (Err refusal) found = Err refusal
then_item (Ok items) (Err refusal) = Err refusal
then_item (Ok items) (Ok item) = Ok (items ++ item ∷ [])

alone : (found : Result Item Refusal) → and_items found (Ok []) ≡ then_item (Ok []) found
unfolding then_item
alone (Ok item) = refl
alone (Err refusal) = refl

behind : (first : Result Item Refusal) (items : Result (List Item) Refusal) (found : Result Item Refusal)
    → and_items first (then_item items found) ≡ then_item (and_items first items) found
unfolding then_item
behind (Err refusal) items found = refl
behind (Ok item) (Err refusal) found = refl
behind (Ok item) (Ok items) (Err refusal) = refl
behind (Ok item) (Ok items) (Ok last) = refl

items_more : (lines : List (List ℕ)) (line : List ℕ) → items_of_group (lines ++ line ∷ []) ≡ then_item (items_of_group lines) (grouped_item line)
unfolding items_of_group
items_more [] line = alone (grouped_item line)
items_more (first ∷ lines) line = ap (and_items (grouped_item first)) (items_more lines line) ∙ behind (grouped_item first) (items_of_group lines) (grouped_item line)

-- the line takes memory, and those before it are items
here : (items : Vec Item Global) (lines : List (List ℕ)) (line : List ℕ) → KeepsItems (Ok items) lines → TakesRoom line → GroupTakesRoom (lines ++ line ∷ [])
here items lines line k takes = record { before = lines; line = line; after = []; lines_are = refl; items = ap is_ok k; takes = takes }

-- and one more may follow
stays_in : (lines : List (List ℕ)) (line : List ℕ) → GroupTakesRoom lines → GroupTakesRoom (lines ++ line ∷ [])
stays_in lines line room = record {
  before = room.before;
  line = room.line;
  after = room.after ++ line ∷ [];
  lines_are = ap (λ l. l ++ line ∷ []) room.lines_are ∙ append_assoc room.before (room.line ∷ room.after) (line ∷ []);
  items = room.items;
  takes = room.takes;
}

-- a line that is an item takes memory
item_takes : (line : List ℕ) (item : Item) → Ok item ≡ grouped_item line → TakesRoom line
item_takes line item e = by_begin (begins_item line) refl
  where
    no_item : (past : Bool) → Ok item ≡ (if past then Err LongLine else or_refused (item_of_line line)) → item_of_line line ≡ Err fault.BadLine → ⊥
    no_item true is none = cc
    no_item false is none = let same : Ok item ≡ or_refused (Err fault.BadLine) = is ∙ ap or_refused none in cc

    by_begin : (begins : Bool) → begins_item line ≡ begins → TakesRoom line
    by_begin true is = inr is
    by_begin false is =
        let none = either_false (starts_with nat_eq line (codes "put ")) (starts_with nat_eq line (codes "delete ")) is in
        absurd (no_item (nat_lt line_limit (length line)) e (is_no_item line none.0 none.1))

-- a fault stays the first
pub stays_refused : (lines : List (List ℕ)) (line : List ℕ) (refusal : Refusal) → KeepsItems (Err refusal) lines → KeepsItems (Err refusal) (lines ++ line ∷ [])
unfolding then_item
stays_refused lines line refusal (inl e) = inl (items_more lines line ∙ ap (λ found. then_item found (grouped_item line)) e)
stays_refused lines line refusal (inr (e, room)) = inr (e, stays_in lines line room)

-- the line is the first with a fault
pub is_refused : (items : Vec Item Global) (lines : List (List ℕ)) (line : List ℕ) (refusal : Refusal) → KeepsItems (Ok items) lines
    → (Err refusal ≡ grouped_item line) ⊎ ((refusal ≡ Line fault.NoMemory) × TakesRoom line) → KeepsItems (Err refusal) (lines ++ line ∷ [])
unfolding then_item
is_refused items lines line refusal k (inl e) =
    inl (items_more lines line ∙ ap (λ found. then_item found (grouped_item line)) k ∙ ap (then_item (Ok items.items)) (sym e))
is_refused items lines line refusal k (inr (e, room)) = inr (e, here items lines line k room)

-- there was no memory for one more item
pub no_room : (items : Vec Item Global) (lines : List (List ℕ)) (line : List ℕ) (item : Item) → KeepsItems (Ok items) lines → Ok item ≡ grouped_item line
    → KeepsItems (Err (Line fault.NoMemory)) (lines ++ line ∷ [])
no_room items lines line item k e = inr (refl, here items lines line k (item_takes line item e))

-- it has an item
pub has_item : (items more : Vec Item Global) (lines : List (List ℕ)) (line : List ℕ) (item : Item) → KeepsItems (Ok items) lines
    → Ok item ≡ grouped_item line → more.items ≡ items.items ++ item ∷ [] → KeepsItems (Ok more) (lines ++ line ∷ [])
unfolding then_item
has_item items more lines line item k e is =
    items_more lines line ∙ ap (λ found. then_item found (grouped_item line)) k ∙ ap (then_item (Ok items.items)) (sym e) ∙ ap Ok (sym is)

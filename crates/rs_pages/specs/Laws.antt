-- Consequences of the page rule alone.
use Rattle.std.specs.Prelude.{◌≡◌, ◌≤◌, ℕ, List, [], ◌∷◌, ◌++◌, length, All, IfSome, IsTrue}
use Rattle.rs_model.specs.Names.{bind, unbind, value_of, is_ordered}
use Rattle.rs_page.specs.Pages.{Page, IsTouched, items_of, placed_extents}
use Rattle.rs_page.specs.SharedPages.{KeepsPages}
use Rattle.rs_pages.specs.Items.{keyed}
use Rattle.rs_pages.specs.Filled.{named_filled, end_filled, last_filled, StandsUnstored, EndsUnstored}
use Rattle.rs_pages.specs.Rule.{HaveItems, items_at, home, bound_in, unbound_in, appended_to}

-- a page is touched, and has 1 to 64 items
abbrev pub IsFreshPage : {T : Type 0} → Page T → Type 0
IsFreshPage page = IsTouched page.place × (1 ≤ length page.items) × (length page.items ≤ 64)

-- At most one page of the old list goes, and touched pages of 1 to 64 items come in its place; all other pages stay as
-- they are.
pub record TouchesOne {T : Type 0} (old new : List (Page T)) : Type 0 where
  pub before : List (Page T)
  pub gone : List (Page T)
  pub made : List (Page T)
  pub after : List (Page T)
  pub was : old ≡ before ++ (gone ++ after)
  pub is : new ≡ before ++ (made ++ after)
  pub one : length gone ≤ 1
  pub fresh : All IsFreshPage made

-- the items of all pages are in the ascending order of their names
abbrev pub Ascend : {T : Type 0} → (T → List ℕ) → List (Page T) → Type 0
Ascend name pages = IsTrue (is_ordered (keyed name (items_of pages)))

-- Through all pages, an item is bound as in one list ..
abbrev pub BindsAsOne : {T : Type 0} → (T → List ℕ) → Type 0
BindsAsOne {T} name = (t : T) (pages : List (Page T)) → Ascend name pages
    → (keyed name (items_of (bound_in name t pages)) ≡ bind (name t) t (keyed name (items_of pages))) × Ascend name (bound_in name t pages)

-- .. unbound ..
abbrev pub UnbindsAsOne : {T : Type 0} → (T → List ℕ) → Type 0
UnbindsAsOne {T} name = (n : List ℕ) (pages : List (Page T)) → Ascend name pages
    → (keyed name (items_of (unbound_in name n pages)) ≡ unbind n (keyed name (items_of pages))) × Ascend name (unbound_in name n pages)

-- .. and found.
abbrev pub FindsAsOne : {T : Type 0} → (T → List ℕ) → Type 0
FindsAsOne {T} name = (n : List ℕ) (pages : List (Page T)) → Ascend name pages
    → value_of n (keyed name (items_of pages)) ≡ value_of n (keyed name (items_at (home name n pages) pages))

-- An item is appended to all items.
abbrev pub AppendsAsOne : Type 0 → Type 0
AppendsAsOne T = (t : T) (pages : List (Page T)) → items_of (appended_to t pages) ≡ items_of pages ++ t ∷ []

-- Binding, unbinding and appending touch at most one page.
abbrev pub BindingTouchesOne : {T : Type 0} → (T → List ℕ) → Type 0
BindingTouchesOne {T} name = (t : T) (pages : List (Page T)) → TouchesOne pages (bound_in name t pages)

abbrev pub UnbindingTouchesOne : {T : Type 0} → (T → List ℕ) → Type 0
UnbindingTouchesOne {T} name = (n : List ℕ) (pages : List (Page T)) → TouchesOne pages (unbound_in name n pages)

abbrev pub AppendingTouchesOne : Type 0 → Type 0
AppendingTouchesOne T = (t : T) (pages : List (Page T)) → TouchesOne pages (appended_to t pages)

-- Where at most one page is touched, the pages on the disk are kept, and no page is given blocks.
abbrev pub TouchingKeeps : Type 0 → Type 0
TouchingKeeps T = (old new : List (Page T)) → TouchesOne old new → KeepsPages old new × (placed_extents old ≡ [] → placed_extents new ≡ [])

-- An item that is bound ..
abbrev pub BoundStandsUnstored : {T : Type 0} → (T → List ℕ) → Type 0
BoundStandsUnstored {T} name = (t : T) (pages : List (Page T)) → StandsUnstored name (name t) (bound_in name t pages)

-- .. or appended is in a page that is not on the disk.
abbrev pub AppendedEndsUnstored : Type 0 → Type 0
AppendedEndsUnstored T = (t : T) (pages : List (Page T)) → EndsUnstored (appended_to t pages)

-- Through all pages, the item of a name is filled as in one list: the filled item is bound to the name, and the order
-- and the number stay.
pub record FillsAsOne {T : Type 0} (name : T → List ℕ) (f : T → T) (n : List ℕ) (pages : List (Page T)) : Type 0 where
  pub bound : IfSome (value_of n (keyed name (items_of pages))) (λ t. keyed name (items_of (named_filled name f n pages)) ≡ bind n (f t) (keyed name (items_of pages)))
  pub ordered : Ascend name (named_filled name f n pages)
  pub len : length (items_of (named_filled name f n pages)) ≡ length (items_of pages)

-- So it is where filling keeps the name of an item.
abbrev pub FillingIsOne : {T : Type 0} → (T → List ℕ) → Type 0
FillingIsOne {T} name = (f : T → T) → ((t : T) → name (f t) ≡ name t) → (n : List ℕ) (pages : List (Page T)) → Ascend name pages → FillsAsOne name f n pages

-- The last item of all pages is filled as in one list.
abbrev pub LastIsFilled : Type 0 → Type 0
LastIsFilled T = (f : T → T) (pages : List (Page T)) → HaveItems pages → items_of (last_filled f pages) ≡ end_filled f (items_of pages)

-- Binding an item and then filling it is the same as binding the filled item.
abbrev pub FillingBound : {T : Type 0} → (T → List ℕ) → Type 0
FillingBound {T} name = (f : T → T) → ((t : T) → name (f t) ≡ name t) → (t : T) (pages : List (Page T)) → Ascend name pages
    → named_filled name f (name t) (bound_in name t pages) ≡ bound_in name (f t) pages

-- Appending an item and then filling the last one is the same as appending the filled item.
abbrev pub FillingAppended : Type 0 → Type 0
FillingAppended T = (f : T → T) (t : T) (pages : List (Page T)) → last_filled f (appended_to t pages) ≡ appended_to (f t) pages

-- The entries of the pages on the disk.
use Rattle.std.specs.Prelude.{ℕ, zero, suc, ◌-◌, Bool, false, cond, nat_lt, List, [], ◌∷◌, length, Option, Some, None}
use Rattle.rs_page.specs.declared.place.PageRef.{PageRef}
use Rattle.rs_page.specs.Pages.{Page, same_page, stored_ref}
use Rattle.rs_pages.specs.Rule.{items_at}

-- the entry of the page at i, where that page is on the disk
abbrev pub entry_at : {T : Type 0} → ℕ → List (Page T) → Option PageRef
entry_at i [] = None
entry_at zero (page ∷ pages) = stored_ref page.place
entry_at (suc i) (page ∷ pages) = entry_at i pages

-- the entry of the last page, where that page is on the disk and the next item that is appended goes into it
abbrev pub open_entry : {T : Type 0} → List (Page T) → Option PageRef
open_entry pages = let last = length pages - 1 in cond (nat_lt (length (items_at last pages)) 64) (entry_at last pages) None

-- there is an entry, and it is this one
abbrev pub is_entry : PageRef → Option PageRef → Bool
is_entry entry None = false
is_entry entry (Some own) = same_page entry own

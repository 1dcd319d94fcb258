-- The format of a page of a list on the disk.
use Rattle.std.specs.Prelude.{◌≡◌, ◌≤◌, ℕ, List, ◌∷◌, ◌++◌, length, flat_map, All}
use Rattle.std.specs.Int.{w32, to_be_bytes}
use Rattle.rs_record.specs.Limits.{most_items}
use Rattle.rs_page.specs.declared.kind.PageKind.{PageKind}
use Rattle.rs_page.specs.declared.kind.PageKind.TheVariants.{Records, Changes}

-- The format of the items of a page: their kind, the bytes of an item, and which items are lawful.
pub record ItemFormat (T : Type 0) : Type 1 where
  pub kind : PageKind
  pub bytes : T → List ℕ
  pub IsLawful : T → Type 0

-- the byte of a kind
abbrev pub kind_byte : PageKind → ℕ
kind_byte Records = 1
kind_byte Changes = 2

-- the items, one after the other
abbrev pub items_bytes : {T : Type 0} → ItemFormat T → List T → List ℕ
items_bytes format items = flat_map format.bytes items

-- a page: the byte of its kind, the number of its items in 4 bytes, big endian, and the items; no byte follows
abbrev pub page_bytes : {T : Type 0} → ItemFormat T → List T → List ℕ
page_bytes format items = kind_byte format.kind ∷ (to_be_bytes w32 (length items) ++ items_bytes format items)

-- The items that a page can have: 1 to 50,000, all of them lawful.
pub record ArePageItems {T : Type 0} (format : ItemFormat T) (items : List T) : Type 0 where
  pub some : 1 ≤ length items
  pub most : length items ≤ most_items
  pub lawful : All format.IsLawful items

-- No format begins another: if bytes begin with two formats of lawful items, the items are equal, and the same bytes
-- follow.
abbrev pub StandAlone : {T : Type 0} → ItemFormat T → Type 0
StandAlone {T} format =
    (a b : T) (x y : List ℕ) → format.IsLawful a → format.IsLawful b → format.bytes a ++ x ≡ format.bytes b ++ y → (a ≡ b) × (x ≡ y)

-- Bytes are no page of items of this format.
abbrev pub AreNoPage : {T : Type 0} → ItemFormat T → List ℕ → Type 0
AreNoPage {T} format bytes = (items : List T) → ArePageItems format items → ¬ (bytes ≡ page_bytes format items)

-- Bytes do not begin with this number of lawful items.
abbrev pub BeginWithFewer : {T : Type 0} → ItemFormat T → ℕ → List ℕ → Type 0
BeginWithFewer {T} format count bytes =
    (items : List T) (rest : List ℕ) → length items ≡ count → All format.IsLawful items → ¬ (bytes ≡ items_bytes format items ++ rest)

-- Bytes are a page of one list of items.
use Rattle.std.proofs.Common.{◌≡◌, ℕ, suc, ◌+◌, ◌^◌, ◌<◌, ◌≤◌, List, [], ◌∷◌, ◌++◌, length, take, drop, get_or, refl, sym, ◌∙◌, ap, ap₂, subst, inl, inr, append_assoc, arith}
use Rattle.std.specs.List.{All}
use Rattle.std.specs.Int.{w32, to_be_bytes, from_be_bytes}
use Rattle.std.proofs.lemmas.Grind.{flat_map-append}
use Rattle.std.proofs.lemmas.List.{take_more, take_at, drop_at, append-nil, length-append, length-take, length-take-le, take-append-drop, get_or-take, get_or_past}
use Rattle.std.proofs.lemmas.List.Elements.{All-head, All-tail}
use Rattle.std.proofs.lemmas.Nat.{from_be_bytes-to_be_bytes_4, be_bytes_4}
use Rattle.std.proofs.lemmas.Bool.{cases_lt}
use Rattle.rs_record.specs.Format.{BeginsWith}
use Rattle.rs_page.specs.Laws.{PageHoldsOnce, PagesHoldOnce}
use Rattle.rs_page.specs.Format.{ItemFormat, StandAlone, ArePageItems, kind_byte, items_bytes, page_bytes}

-- the bytes of one item more
pub items_more : {T : Type 0} (format : ItemFormat T) (items : List T) (i : ℕ) (item : T) → i < length items → item ≡ get_or items i item
    → items_bytes format (take (i + 1) items) ≡ items_bytes format (take i items) ++ format.bytes item
items_more format items i item lt is =
    ap (items_bytes format) (take_more items i item lt) ∙ flat_map-append format.bytes (take i items) (get_or items i item ∷ [])
    ∙ ap (λ xs. items_bytes format (take i items) ++ xs) (append-nil (format.bytes (get_or items i item)) ∙ ap format.bytes (sym is))

-- the items that are left of a longer list, and their bytes
pub record IsRest {T : Type 0} (format : ItemFormat T) (some all : List T) (x y : List ℕ) : Type 0 where
  pub items : List T
  pub whole : all ≡ some ++ items
  pub lawful : All format.IsLawful items
  pub bytes : x ≡ items_bytes format items ++ y

-- If the bytes of two lists of lawful items, with further bytes after them, are equal, the shorter list begins the
-- longer one.
pub rest_of : {T : Type 0} (format : ItemFormat T) → StandAlone format → (some all : List T) (x y : List ℕ) → All format.IsLawful some → All format.IsLawful all
    → length some ≤ length all → items_bytes format some ++ x ≡ items_bytes format all ++ y → IsRest format some all x y
rest_of format apart [] all x y some_lawful all_lawful le same = record { items = all; whole = refl; lawful = all_lawful; bytes = same }
rest_of format apart (a ∷ some) [] x y some_lawful all_lawful le same = absurd (omega arith)
rest_of format apart (a ∷ some) (b ∷ all) x y some_lawful all_lawful le same =
    let first = apart a b (items_bytes format some ++ x) (items_bytes format all ++ y)
    (All-head format.IsLawful a some some_lawful) (All-head format.IsLawful b all all_lawful)
    (sym (append_assoc (format.bytes a) (items_bytes format some) x) ∙ same ∙ append_assoc (format.bytes b) (items_bytes format all) y) in
    let more = rest_of format apart some all x y (All-tail format.IsLawful a some some_lawful) (All-tail format.IsLawful b all all_lawful) (omega arith) first.1 in
    record { items = more.items; whole = ap₂ (λ item items. item ∷ items) (sym first.0) more.whole; lawful = more.lawful; bytes = more.bytes }

-- lists of one length are equal
pub same_items : {T : Type 0} (format : ItemFormat T) → StandAlone format → (a b : List T) (x y : List ℕ) → All format.IsLawful a → All format.IsLawful b
    → length a ≡ length b → items_bytes format a ++ x ≡ items_bytes format b ++ y → (a ≡ b) × (x ≡ y)
same_items {T} format apart a b x y a_lawful b_lawful long same =
    let rest = rest_of format apart a b x y a_lawful b_lawful (omega arith) same in
    none rest.items (omega (arith, length-append a rest.items, ap length rest.whole)) rest.whole rest.bytes
  where
    none : (items : List T) → length items ≡ 0 → b ≡ a ++ items → x ≡ items_bytes format items ++ y → (a ≡ b) × (x ≡ y)
    none [] is whole bytes = (sym (whole ∙ append-nil a), bytes)
    none (item ∷ items) is whole bytes = absurd (omega arith)

-- the front of a page is read in one way
pub same_head : (kind kind' count count' : ℕ) (x y : List ℕ) → count < 2 ^ 32 → count' < 2 ^ 32
    → kind ∷ (to_be_bytes w32 count ++ x) ≡ kind' ∷ (to_be_bytes w32 count' ++ y) → (kind ≡ kind') × (count ≡ count') × (x ≡ y)
same_head kind kind' count count' x y fits fits' same =
    let kinds : kind ≡ kind' = cc in
    let rests : to_be_bytes w32 count ++ x ≡ to_be_bytes w32 count' ++ y = cc in
    let counts : to_be_bytes w32 count ≡ to_be_bytes w32 count' =
    sym (take_at (to_be_bytes w32 count) x 4 refl) ∙ ap (take 4) rests ∙ take_at (to_be_bytes w32 count') y 4 refl in (
      kinds,
      sym (from_be_bytes-to_be_bytes_4 count fits) ∙ ap (from_be_bytes w32) counts ∙ from_be_bytes-to_be_bytes_4 count' fits',
      sym (drop_at (to_be_bytes w32 count) x 4 refl) ∙ ap (drop 4) rests ∙ drop_at (to_be_bytes w32 count') y 4 refl,
    )

-- Bytes are a page of one list of items.
pub same_page : {T : Type 0} (format : ItemFormat T) → StandAlone format → (a b : List T) → ArePageItems format a → ArePageItems format b
    → page_bytes format a ≡ page_bytes format b → a ≡ b
same_page format apart a b of_a of_b same =
    let head = same_head (kind_byte format.kind) (kind_byte format.kind) (length a) (length b) (items_bytes format a) (items_bytes format b)
    (omega (arith, of_a.most)) (omega (arith, of_b.most)) same in
    (same_items format apart a b [] [] of_a.lawful of_b.lawful head.1
    (append-nil (items_bytes format a) ∙ head.2 ∙ sym (append-nil (items_bytes format b)))).0

-- one item more was read
pub read_more : {T : Type 0} (format : ItemFormat T) (items : List T) (item : T) (bytes rest : List ℕ) (size : ℕ) → bytes ≡ items_bytes format items ++ rest
    → BeginsWith rest (format.bytes item) → size ≡ length (format.bytes item) → bytes ≡ items_bytes format (items ++ item ∷ []) ++ drop size rest
read_more format items item bytes rest size found begins is =
    let after : drop size rest ≡ begins.0 = ap (drop size) begins.1 ∙ drop_at (format.bytes item) begins.0 size (sym is) in
    let front : items_bytes format (items ++ item ∷ []) ≡ items_bytes format items ++ format.bytes item =
    flat_map-append format.bytes items (item ∷ []) ∙ ap (λ xs. items_bytes format items ++ xs) (append-nil (format.bytes item)) in
    found ∙ ap (λ xs. items_bytes format items ++ xs) (begins.1 ∙ ap (λ xs. format.bytes item ++ xs) (sym after))
    ∙ sym (append_assoc (items_bytes format items) (format.bytes item) (drop size rest)) ∙ ap (λ xs. xs ++ drop size rest) (sym front)

-- if no item follows, the bytes have no more items
pub no_more : {T : Type 0} (format : ItemFormat T) → StandAlone format → (items all : List T) (bytes rest after : List ℕ) → All format.IsLawful items → All format.IsLawful all
    → length items < length all → bytes ≡ items_bytes format items ++ rest → ((item : T) → format.IsLawful item → ¬ BeginsWith rest (format.bytes item))
    → ¬ (bytes ≡ items_bytes format all ++ after)
no_more {T} format apart items all bytes rest after lawful all_lawful fewer found none same =
    let left = rest_of format apart items all rest after lawful all_lawful (omega arith) (sym found ∙ same) in
    next left.items (omega (arith, fewer, length-append items left.items, ap length left.whole)) left.lawful left.bytes
  where
    next : (more : List T) → 0 < length more → All format.IsLawful more → rest ≡ items_bytes format more ++ after → ⊥
    next [] some more_lawful is = absurd (omega arith)
    next (item ∷ more) some more_lawful is =
        none item (All-head format.IsLawful item more more_lawful)
        (items_bytes format more ++ after, is ∙ append_assoc (format.bytes item) (items_bytes format more) after)

-- the kind and the number of items that bytes begin with
pub head : (kind count : ℕ) (bytes rest front left : List ℕ) → ((i : ℕ) → get_or bytes i 0 < 256) → bytes ≡ kind ∷ rest → front ≡ take 4 rest → left ≡ drop 4 rest
    → 4 ≤ length rest → count ≡ from_be_bytes w32 front → bytes ≡ kind ∷ (to_be_bytes w32 count ++ left)
head kind count bytes rest front left fits whole is_front is_left long is =
    let each : (i : ℕ) → get_or rest i 0 < 256 = λ i. subst (λ (all : List ℕ). get_or all (suc i) 0 < 256) whole (fits (suc i)) in
    let counted : to_be_bytes w32 count ≡ front =
    be_bytes_4 front count (ap length is_front ∙ length-take-le 4 rest long)
    (subst (λ (xs : List ℕ). (i : ℕ) → get_or xs i 0 < 256) (sym is_front) (first_bytes rest each)) is in
    whole ∙ ap (λ xs. kind ∷ xs) (sym (take-append-drop 4 rest) ∙ ap₂ (λ xs ys. xs ++ ys) (sym (counted ∙ is_front)) (sym is_left))
  where
    first_bytes : (rest : List ℕ) → ((i : ℕ) → get_or rest i 0 < 256) → (i : ℕ) → get_or (take 4 rest) i 0 < 256
    first_bytes rest each i = elim (cases_lt i 4) [
      | inl lt ↦ rw (get_or-take 4 rest i 0 lt) (each i)
      | inr le ↦ rw (get_or_past (take 4 rest) i 0 (omega (arith, length-take 4 rest))) (omega arith)
    ]

-- no bytes are left after as many items as a page has
pub left_after : {T : Type 0} (format : ItemFormat T) → StandAlone format → (kind count : ℕ) (bytes rest left : List ℕ) (items all : List T) → count < 2 ^ 32
    → bytes ≡ kind ∷ (to_be_bytes w32 count ++ rest) → length items ≡ count → All format.IsLawful items → rest ≡ items_bytes format items ++ left
    → ArePageItems format all → bytes ≡ page_bytes format all → left ≡ []
left_after format apart kind count bytes rest left items all fits whole long lawful found of_all same =
    let parts = same_head kind (kind_byte format.kind) count (length all) rest (items_bytes format all) fits (omega (arith, of_all.most)) (sym whole ∙ same) in
    (same_items format apart items all left [] lawful of_all.lawful (long ∙ parts.1) (sym found ∙ parts.2 ∙ sym (append-nil (items_bytes format all)))).1

-- the items of a page, and of pages
pub page_holds_once : {T : Type 0} (format : ItemFormat T) → StandAlone format → PageHoldsOnce format
page_holds_once format apart ref image a b of_a of_b = same_page format apart a b of_a.lawful of_b.lawful (sym of_a.bytes ∙ of_b.bytes)

pub pages_hold_once : {T : Type 0} (format : ItemFormat T) → StandAlone format → PagesHoldOnce format
pages_hold_once format apart [] image [] [] of_a of_b = refl
pages_hold_once format apart [] image [] (b ∷ more_b) of_a of_b = absurd of_b
pages_hold_once format apart [] image (a ∷ more_a) more_b of_a of_b = absurd of_a
pages_hold_once format apart (ref ∷ refs) image [] more_b of_a of_b = absurd of_a
pages_hold_once format apart (ref ∷ refs) image (a ∷ more_a) [] of_a of_b = absurd of_b
pages_hold_once format apart (ref ∷ refs) image (a ∷ more_a) (b ∷ more_b) of_a of_b =
    ap₂ (λ items pages. items ∷ pages) (page_holds_once format apart ref image a b of_a.0 of_b.0) (pages_hold_once format apart refs image more_a more_b of_a.1 of_b.1)

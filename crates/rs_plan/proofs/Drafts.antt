-- Lists that get the digests of a body keep the sizes and the places of their pages.
use Rattle.std.proofs.Common.{◌≡◌, inl, inr, ℕ, Bool, List, [], ◌∷◌, ◌++◌, length, map, Some, None, refl, sym, ◌∙◌, ap, ap₂, subst, arith}
use Rattle.std.specs.Prelude.{All, IsSome, IsTrue, ◌&&◌, nat_lt}
use Rattle.std.specs.List.{AllByRecursion, AllZip, cons_option}
use Rattle.std.specs.Cmp.{first_so, second_so}
use Rattle.std.specs.Cmp.Lexicographic.{nat_list_cmp_total}
use Rattle.std.specs.Ordering.{is_lt}
use Rattle.std.specs.declared.cmp.Ordering.{Ordering}
use Rattle.std.specs.declared.cmp.Ordering.TheVariants.{Less, Equal, Greater}
use Rattle.std.proofs.lemmas.Bool.{and_from}
use Rattle.std.proofs.lemmas.List.{append-nil, length-append, length-map}
use Rattle.std.proofs.lemmas.List.Elements.{All-cons, All-head, All-tail}
use Rattle.rs_fixity.specs.declared.Digests.{Digests}
use Rattle.rs_record.specs.declared.record.Record.{Record}
use Rattle.rs_record.specs.declared.change.Change.{Change}
use Rattle.rs_record.specs.declared.facts.Facts.{Facts}
use Rattle.rs_record.specs.Changes.{bound}
use Rattle.rs_record.specs.Format.{record_bytes, change_bytes}
use Rattle.rs_plan.proofs.FromBelow.{length-record_bytes, each_page, is_less, tail_ordered, above_lower, HasItems}
use Rattle.rs_extent.specs.Blocks.{IsLowest}
use Rattle.rs_body.specs.Blocks.{blocks_of}
use Rattle.rs_page.specs.declared.place.Place.{Place}
use Rattle.rs_page.specs.declared.place.Place.TheVariants.{Touched, Placed, Stored}
use Rattle.rs_page.specs.Format.{ItemFormat, items_bytes, page_bytes}
use Rattle.rs_page.specs.Items.{record_format, record_filled, change_filled}
use Rattle.rs_page.specs.Pages.{Page, IsTouched, items_of, placed_extent, placed_extents, stored_ref, blocks_needed}
use Rattle.rs_page.specs.Placing.{PlacesOne, Places}
use Rattle.rs_pages.specs.Items.{keyed}
use Rattle.rs_pages.specs.Filled.{end_filled, last_filled, IsUnstored, StandsUnstored, EndsUnstored}
use Rattle.rs_catalogue.specs.Named.{named}
use Rattle.rs_model.specs.Names.{Names, by_bytes, by_order, value_of, is_above, is_ordered}
use Rattle.rs_model.specs.Regular.{is_rising, rises_from}
use Rattle.rs_plan.specs.Room.{pages_needed}
use Rattle.rs_plan.proofs.Placing.{at}

-- digests of the right lengths
pub record AreLong (digests : Digests) : Type 0 where
  pub md5 : length digests.md5 ≡ 16
  pub sha256 : length digests.sha256 ≡ 32

-- A filled page keeps its place, its number of items and its number of blocks.
pub record IsRefilled {T : Type 0} (format : ItemFormat T) (old new : Page T) : Type 0 where
  pub place : new.place ≡ old.place
  pub many : length new.items ≡ length old.items
  pub blocks : blocks_needed format new.items ≡ blocks_needed format old.items

-- the same for all pages of a list
abbrev pub AreRefilled : {T : Type 0} → ItemFormat T → List (Page T) → List (Page T) → Type 0
AreRefilled format old new = AllZip (IsRefilled format) old new

-- items of equally many bytes need equally many blocks
page_long : {T : Type 0} (format : ItemFormat T) (a b : List T) → length (items_bytes format a) ≡ length (items_bytes format b)
    → length (page_bytes format a) ≡ length (page_bytes format b)
page_long format a b same = omega (arith, same)

same_blocks : {T : Type 0} (format : ItemFormat T) (a b : List T) → length (items_bytes format a) ≡ length (items_bytes format b)
    → blocks_needed format a ≡ blocks_needed format b
same_blocks format a b same = ap blocks_of (page_long format a b same)

-- A page is placed in the same way, where it has other items and needs as many blocks.
refilled_by : {T : Type 0} (format : ItemFormat T) (used used' : List Bool) (items items' next next' : List T) (place place' : Place) → next' ≡ next
    → blocks_needed format next ≡ blocks_needed format items → PlacesOne format used (at items place) used' (at items' place')
    → PlacesOne format used (at next place) used' (at next' place')
refilled_by format used used' items items' next next' Touched place' is same h = (
  is,
  record {
    extent = h.1.extent;
    lowest = subst (λ (n : ℕ). IsLowest used n h.1.extent) (sym same) h.1.lowest;
    takes = h.1.takes;
    placed = h.1.placed;
  },
)
refilled_by format used used' items items' next next' (Placed e) place' is same h = (is, h.1)
refilled_by format used used' items items' next next' (Stored ref) place' is same h = (is, h.1)

-- Pages that are placed stay off the disk.
unstored_by : {T : Type 0} (format : ItemFormat T) (used used' : List Bool) (items : List T) (place : Place) (y : Page T) → PlacesOne format used (at items place) used' y
    → stored_ref place ≡ None → IsUnstored y
unstored_by format used used' items Touched y h none = ap stored_ref h.1.placed
unstored_by format used used' items (Placed e) y h none = ap stored_ref h.1.1
unstored_by format used used' items (Stored ref) y h none = cc

pub placed_stands : {T : Type 0} (format : ItemFormat T) (name : T → List ℕ) (n : List ℕ) (used used' : List Bool) (pages placed : List (Page T))
    → Places format used pages used' placed
    → StandsUnstored name n pages → StandsUnstored name n placed
placed_stands format name n used used' [] placed p h = absurd h
placed_stands format name n used used' (x ∷ pages) [] p h = absurd p
placed_stands {T} format name n used used' (x ∷ pages) (y ∷ placed) p h =
    elim h [
      | inl here ↦ inl (
        subst (λ (items : List T). IsSome (value_of n (keyed name items))) (sym p.1.0) here.0,
        unstored_by format used p.0 x.items x.place y p.1 here.1,
      )
      | inr other ↦ inr (placed_stands format name n p.0 used' pages placed p.2 other)
    ]

pub placed_ends : {T : Type 0} (format : ItemFormat T) (used used' : List Bool) (pages placed : List (Page T)) → Places format used pages used' placed
    → EndsUnstored pages → EndsUnstored placed
placed_ends format used used' [] placed p h = absurd h
placed_ends format used used' (x ∷ pages) [] p h = absurd p
placed_ends format used used' (x ∷ []) (y ∷ []) p h = unstored_by format used p.0 x.items x.place y p.1 h
placed_ends format used used' (x ∷ []) (y ∷ z ∷ placed) p h = absurd p.2
placed_ends format used used' (x ∷ next ∷ pages) (y ∷ []) p h = absurd p.2
placed_ends format used used' (x ∷ next ∷ pages) (y ∷ z ∷ placed) p h = placed_ends format p.0 used' (next ∷ pages) (z ∷ placed) p.2 h

-- A property of all items of two joined lists holds of all items of both lists.
pub split : {T : Type 0} (P : T → Type 0) (xs ys : List T) → AllByRecursion P (xs ++ ys) → AllByRecursion P xs × AllByRecursion P ys
split P [] ys h = (tt, h)
split P (x ∷ xs) ys h = let both = split P xs ys h.1 in ((h.0, both.0), both.1)

-- a property of the last item, if there is one
abbrev pub HoldsOfLast : {T : Type 0} → (T → Type 0) → List T → Type 0
HoldsOfLast P [] = Unit {0}
HoldsOfLast P (t ∷ []) = P t
HoldsOfLast P (t ∷ next ∷ items) = HoldsOfLast P (next ∷ items)

one_later : {T : Type 0} (P : T → Type 0) (t : T) (items : List T) → HoldsOfLast P (t ∷ items) → HoldsOfLast P items
one_later P t [] h = tt
one_later P t (next ∷ items) h = h

later : {T : Type 0} (P : T → Type 0) (xs ys : List T) → HoldsOfLast P (xs ++ ys) → HoldsOfLast P ys
later P [] ys h = h
later P (x ∷ xs) ys h = later P xs ys (one_later P x (xs ++ ys) h)

pub of_last : {T : Type 0} (P : T → Type 0) (before : List T) (last : T) → P last → HoldsOfLast P (before ++ last ∷ [])
of_last P [] last h = h
of_last P (x ∷ []) last h = h
of_last P (x ∷ next ∷ before) last h = of_last P (next ∷ before) last h

module _ {T : Type 0} (format : ItemFormat T) (g : T → T) where
  -- an item is as long once it is filled
  abbrev pub StaysLong : T → Type 0
  StaysLong t = length (format.bytes (g t)) ≡ length (format.bytes t)

  -- Pages whose items may all be filled ..
  each_long : (items : List T) → AllByRecursion StaysLong items → length (items_bytes format (map g items)) ≡ length (items_bytes format items)
  each_long [] h = refl
  each_long (x ∷ items) h =
      omega (
        arith,
        h.0,
        each_long items h.1,
        length-append (format.bytes (g x)) (items_bytes format (map g items)),
        length-append (format.bytes x) (items_bytes format items),
      )

  each_blocks : (items : List T) → AllByRecursion StaysLong items → blocks_needed format (map g items) ≡ blocks_needed format items
  each_blocks items h = same_blocks format (map g items) items (each_long items h)

  pub each_refilled : (pages : List (Page T)) → AllByRecursion StaysLong (items_of pages) → AreRefilled format pages (each_page g pages)
  each_refilled [] h = tt
  each_refilled (page ∷ pages) h =
      let both = split StaysLong page.items (items_of pages) h in
      (record { place = refl; many = length-map page.items g; blocks = each_blocks page.items both.0 }, each_refilled pages both.1)

  pub each_placed : (used used' : List Bool) (pages placed : List (Page T)) → AllByRecursion StaysLong (items_of pages) → Places format used pages used' placed
      → Places format used (each_page g pages) used' (each_page g placed)
  each_placed used used' [] [] h p = p
  each_placed used used' [] (y ∷ placed) h p = absurd p
  each_placed used used' (x ∷ pages) [] h p = absurd p
  each_placed used used' (x ∷ pages) (y ∷ placed) h p =
      let both = split StaysLong x.items (items_of pages) h in (
        p.0,
        refilled_by format used p.0 x.items y.items (map g x.items) (map g y.items) x.place y.place (ap (map g) p.1.0) (each_blocks x.items both.0) p.1,
        each_placed p.0 used' pages placed both.1 p.2,
      )

  -- .. and pages of which only the last item is filled.
  end_long : (items : List T) → HoldsOfLast StaysLong items → length (items_bytes format (end_filled g items)) ≡ length (items_bytes format items)
  end_long [] h = refl
  end_long (x ∷ []) h = omega (arith, h, length-append (format.bytes (g x)) [], length-append (format.bytes x) [])
  end_long (x ∷ next ∷ items) h =
      omega (
        arith,
        end_long (next ∷ items) h,
        length-append (format.bytes x) (items_bytes format (end_filled g (next ∷ items))),
        length-append (format.bytes x) (items_bytes format (next ∷ items)),
      )

  end_blocks : (items : List T) → HoldsOfLast StaysLong items → blocks_needed format (end_filled g items) ≡ blocks_needed format items
  end_blocks items h = same_blocks format (end_filled g items) items (end_long items h)

  end_many : (items : List T) → length (end_filled g items) ≡ length items
  end_many [] = refl
  end_many (x ∷ []) = refl
  end_many (x ∷ next ∷ items) = omega (arith, end_many (next ∷ items))

  alone : (page : Page T) → HoldsOfLast StaysLong (items_of (page ∷ [])) → HoldsOfLast StaysLong page.items
  alone page h = subst (HoldsOfLast StaysLong) (append-nil page.items) h

  itself : (page : Page T) → IsRefilled format page page
  itself page = record { place = refl; many = refl; blocks = refl }

  pub last_refilled : (pages : List (Page T)) → HoldsOfLast StaysLong (items_of pages) → AreRefilled format pages (last_filled g pages)
  last_refilled [] h = tt
  last_refilled (page ∷ []) h = (record { place = refl; many = end_many page.items; blocks = end_blocks page.items (alone page h) }, tt)
  last_refilled (page ∷ next ∷ pages) h = (itself page, last_refilled (next ∷ pages) (later StaysLong page.items (items_of (next ∷ pages)) h))

  pub last_placed : (used used' : List Bool) (pages placed : List (Page T)) → HoldsOfLast StaysLong (items_of pages) → Places format used pages used' placed
      → Places format used (last_filled g pages) used' (last_filled g placed)
  last_placed used used' [] [] h p = p
  last_placed used used' [] (y ∷ placed) h p = absurd p
  last_placed used used' (x ∷ pages) [] h p = absurd p
  last_placed used used' (x ∷ []) (y ∷ []) h p = (
    p.0,
    refilled_by format used p.0 x.items y.items (end_filled g x.items) (end_filled g y.items) x.place y.place (ap (end_filled g) p.1.0)
        (end_blocks x.items (alone x h)) p.1,
    p.2,
  )
  last_placed used used' (x ∷ []) (y ∷ z ∷ placed) h p = absurd p.2
  last_placed used used' (x ∷ next ∷ pages) (y ∷ []) h p = absurd p.2
  last_placed used used' (x ∷ next ∷ pages) (y ∷ z ∷ placed) h p =
      (p.0, p.1, last_placed p.0 used' (next ∷ pages) (z ∷ placed) (later StaysLong x.items (items_of (next ∷ pages)) h) p.2)

-- The parts of filled pages that stay.
module _ {T : Type 0} (format : ItemFormat T) where
  pub same_count : (old new : List (Page T)) → AreRefilled format old new → length new ≡ length old
  same_count [] [] h = refl
  same_count [] (y ∷ new) h = absurd h
  same_count (x ∷ old) [] h = absurd h
  same_count (x ∷ old) (y ∷ new) h = omega (arith, same_count old new h.1)

  pub same_many : (old new : List (Page T)) → AreRefilled format old new → length (items_of new) ≡ length (items_of old)
  same_many [] [] h = refl
  same_many [] (y ∷ new) h = absurd h
  same_many (x ∷ old) [] h = absurd h
  same_many (x ∷ old) (y ∷ new) h = omega (arith, h.0.many, same_many old new h.1, length-append x.items (items_of old), length-append y.items (items_of new))

  pub same_extents : (old new : List (Page T)) → AreRefilled format old new → placed_extents new ≡ placed_extents old
  same_extents [] [] h = refl
  same_extents [] (y ∷ new) h = absurd h
  same_extents (x ∷ old) [] h = absurd h
  same_extents (x ∷ old) (y ∷ new) h = ap₂ (λ (p : Place). cons_option (placed_extent p)) h.0.place (same_extents old new h.1)

  needed_at : (items next : List T) (place : Place) (old new : List (Page T)) → blocks_needed format next ≡ blocks_needed format items
      → pages_needed format new ≡ pages_needed format old
      → pages_needed format (at next place ∷ new) ≡ pages_needed format (at items place ∷ old)
  needed_at items next Touched old new same rest = ap₂ (λ (n : ℕ) (ns : List ℕ). n ∷ ns) same rest
  needed_at items next (Placed e) old new same rest = ap₂ (λ (n : ℕ) (ns : List ℕ). n ∷ ns) same rest
  needed_at items next (Stored ref) old new same rest = rest

  pub same_needed : (old new : List (Page T)) → AreRefilled format old new → pages_needed format new ≡ pages_needed format old
  same_needed [] [] h = refl
  same_needed [] (y ∷ new) h = absurd h
  same_needed (x ∷ old) [] h = absurd h
  same_needed (x ∷ old) (y ∷ new) h =
      ap (λ (p : Place). pages_needed format (at y.items p ∷ new)) h.0.place ∙ needed_at x.items y.items x.place old new h.0.blocks (same_needed old new h.1)

  pub still_some : (old new : List (Page T)) → AreRefilled format old new → All HasItems old → All HasItems new
  still_some [] [] h some = some
  still_some [] (y ∷ new) h some = absurd h
  still_some (x ∷ old) [] h some = absurd h
  still_some (x ∷ old) (y ∷ new) h some =
      All-cons HasItems y new (omega (arith, h.0.many, All-head HasItems x old some)) (still_some old new h.1 (All-tail HasItems x old some))

  abbrev pub IsUntouched : Page T → Type 0
  IsUntouched page = ¬ IsTouched page.place

  pub still_untouched : (old new : List (Page T)) → AreRefilled format old new → All IsUntouched old → All IsUntouched new
  still_untouched [] [] h all = all
  still_untouched [] (y ∷ new) h all = absurd h
  still_untouched (x ∷ old) [] h all = absurd h
  still_untouched (x ∷ old) (y ∷ new) h all =
      All-cons IsUntouched y new (subst (λ (p : Place). ¬ IsTouched p) (sym h.0.place) (All-head IsUntouched x old all))
      (still_untouched old new h.1 (All-tail IsUntouched x old all))

-- a change that binds a name has the same length with other digests
pub change_long : (digests : Digests) (name : List ℕ) (again : Bool) (moment : ℕ) (facts : Facts) → AreLong digests → AreLong facts.digests
    → length (change_bytes (change_filled digests (bound name again moment facts))) ≡ length (change_bytes (bound name again moment facts))
change_long digests name again moment facts a b = simp length-append (omega (arith, a.md5, a.sha256, b.md5, b.sha256))

-- the moments rise with it as they did
pub rising_again : (before : List Change) (name : List ℕ) (again : Bool) (moment : ℕ) (facts facts' : Facts)
    → IsTrue (is_rising (before ++ bound name again moment facts ∷ []))
    → IsTrue (is_rising (before ++ bound name again moment facts' ∷ []))
rising_again [] name again moment facts facts' h = refl
rising_again (x ∷ []) name again moment facts facts' h = h
rising_again (x ∷ y ∷ before) name again moment facts facts' h =
    and_from (nat_lt x.moment y.moment) (rises_from y.moment (before ++ bound name again moment facts' ∷ []))
    (first_so (nat_lt x.moment y.moment) (rises_from y.moment (before ++ bound name again moment facts ∷ [])) h)
    (rising_again (y ∷ before) name again moment facts facts'
    (second_so (nat_lt x.moment y.moment) (rises_from y.moment (before ++ bound name again moment facts ∷ [])) h))

-- so has a record
record_long : (digests : Digests) (r : Record) → AreLong digests → AreLong r.digests → length (record_bytes (record_filled digests r)) ≡ length (record_bytes r)
record_long digests r a b = omega (arith, length-record_bytes (record_filled digests r), length-record_bytes r, a.md5, a.sha256, b.md5, b.sha256)

-- a name that compares as equal to a name above a map is above the map too
above_equal : {V : Type 0} (x y : List ℕ) (m : Names V) → by_bytes x y ≡ Equal → IsTrue (is_above y m) → IsTrue (is_above x m)
above_equal x y [] e h = refl
above_equal x y (z ∷ m) e h = ap (λ (o : Ordering). is_lt o && is_above z.0 m) (nat_list_cmp_total.congr x y z.0 e) ∙ h

-- In order, one record alone has a name. Where its digests are long, all records are as long once that one is filled.
module _ (name : List ℕ) (digests : Digests) (long : AreLong digests) where
  abbrev pub filling : Record → Record
  filling r = by_order (by_bytes name r.name) r (record_filled digests r) r

  abbrev pub StaysAsLong : Record → Type 0
  StaysAsLong r = StaysLong record_format filling r

  long_by : (r : Record) (o : Ordering) → by_bytes name r.name ≡ o → length (record_bytes (by_order o r (record_filled digests r) r)) ≡ length (record_bytes r)
      → StaysAsLong r
  long_by r o is h = ap (λ (q : Ordering). length (record_bytes (by_order q r (record_filled digests r) r))) is ∙ h

  above_long : (records : List Record) → IsTrue (is_above name (named records)) → AllByRecursion StaysAsLong records
  above_long [] h = tt
  above_long (x ∷ records) h =
      let less = is_less (by_bytes name x.name) (first_so _ _ h) in
      (long_by x Less less refl, above_long records (above_lower name x.name (named records) less (second_so (is_lt (by_bytes name x.name)) _ h)))

  one_long : (x : Record) (records : List Record) (r : Record) (o : Ordering) → by_bytes name x.name ≡ o → AreLong r.digests → IsTrue (is_above x.name (named records))
      → (value_of name (named records) ≡ Some r → AllByRecursion StaysAsLong records) → by_order o None (Some x) (value_of name (named records)) ≡ Some r
      → AllByRecursion StaysAsLong (x ∷ records)
  one_long x records r Less is b above next h = cc
  one_long x records r Equal is b above next h =
      let same : x ≡ r = cc in
      let b_here : AreLong x.digests = subst (λ (q : Record). AreLong q.digests) (sym same) b in
      (long_by x Equal is (record_long digests x long b_here), above_long records (above_equal name x.name (named records) is above))
  one_long x records r Greater is b above next h = (long_by x Greater is refl, next h)

  pub records_long : (records : List Record) (r : Record) → AreLong r.digests → IsTrue (is_ordered (named records)) → value_of name (named records) ≡ Some r
      → AllByRecursion StaysAsLong records
  records_long [] r b h is = cc
  records_long (x ∷ records) r b h is =
      one_long x records r (by_bytes name x.name) refl b h (records_long records r b (tail_ordered x.name (named records) h)) is

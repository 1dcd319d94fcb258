-- Pages that are written, one after the other.
use Rattle.std.proofs.Common.{◌≡◌, ℕ, zero, suc, ◌<◌, ◌≤◌, List, [], ◌∷◌, ◌++◌, length, get_or, set, take, drop, refl, sym, ap, ap₂, ◌∙◌, subst, inl, inr, arith, Option, Some, None, Result, Ok, Err}
use Rattle.std.specs.Prelude.{IfSome, IsSome, All, OnOk, OnErr}
use Rattle.std.specs.List.{AllZip, cons_option}
use Rattle.std.proofs.lemmas.List.{length-append}
use Rattle.std.proofs.lemmas.List.Elements.{All-head, All-tail, filter_map-append}
use Rattle.rs_disk.specs.Medium.{DiskState}
use Rattle.rs_disk.specs.Runs.{CallsAtMost}
use Rattle.rs_extent.specs.declared.Extent.{Extent}
use Rattle.rs_extent.specs.Extents.{in_some, AreBeside, AreApart, IsOnDisk, AreOnDisk}
use Rattle.rs_body.specs.Outside.{WritesOnly}
use Rattle.rs_pages.proofs.FromBelow.{some_first, some_front, some_behind, beside_front, beside_between, only_none, only_as, only_then, written_stay}
use Rattle.rs_page.specs.declared.place.Place.{Place}
use Rattle.rs_page.specs.declared.place.Place.TheVariants.{Touched, Placed, Stored}
use Rattle.rs_page.specs.Format.{ItemFormat}
use Rattle.rs_page.specs.Pages.{Page, IsTouched, placed_extent, placed_extents, stored_ref, stored}
use Rattle.rs_page.specs.DiskPages.{IsWritten}
use Rattle.rs_pages.specs.Storing.{items_by_page, StaysOrIsStored, StoresTouched, StoresSome, WritesPages}

module _ {A : Type 0} where
  -- an element inside the list, with any default
  pub same_at : (xs : List A) (k : ℕ) (d other : A) → k < length xs → get_or xs k d ≡ get_or xs k other
  same_at [] k d other inside = absurd (omega arith)
  same_at (x ∷ xs) zero d other inside = refl
  same_at (x ∷ xs) (suc k) d other inside = same_at xs k d other (omega arith)

  -- a list, parted at a place
  pub parted_at : (k : ℕ) (xs : List A) (x : A) → k < length xs → x ≡ get_or xs k x → xs ≡ take k xs ++ x ∷ drop (suc k) xs
  parted_at k [] x inside is = absurd (omega arith)
  parted_at zero (y ∷ ys) x inside is = ap (λ z. z ∷ ys) (sym is)
  parted_at (suc k) (y ∷ ys) x inside is = ap (λ rest. y ∷ rest) (parted_at k ys x (omega arith) is)

  pub front_at : (k : ℕ) (xs : List A) (x : A) → k < length xs → x ≡ get_or xs k x → take (suc k) xs ≡ take k xs ++ x ∷ []
  front_at k [] x inside is = absurd (omega arith)
  front_at zero (y ∷ ys) x inside is = ap (λ z. z ∷ []) (sym is)
  front_at (suc k) (y ∷ ys) x inside is = ap (λ rest. y ∷ rest) (front_at k ys x (omega arith) is)

  none_left : (k : ℕ) (xs : List A) → k < length xs → drop k xs ≡ [] → ⊥
  none_left k [] inside is = omega arith
  none_left zero (x ∷ xs) inside is = cc
  none_left (suc k) (x ∷ xs) inside is = none_left k xs (omega arith) is

  -- lists that are the same from a place on have the same element there
  pub next_of : (k : ℕ) (now old : List A) (x : A) → k < length now → drop k now ≡ drop k old → x ≡ get_or now k x
      → (k < length old) × (x ≡ get_or old k x) × (drop (suc k) now ≡ drop (suc k) old)
  next_of k [] old x inside same is = absurd (omega arith)
  next_of zero (n ∷ now) [] x inside same is = cc
  next_of zero (n ∷ now) (o ∷ old) x inside same is =
      let first : n ≡ o = cc in
      let rest : now ≡ old = cc in
      (omega arith, is ∙ first, rest)
  next_of (suc k) (n ∷ now) [] x inside same is = absurd (none_left k now (omega arith) same)
  next_of (suc k) (n ∷ now) (o ∷ old) x inside same is =
      let next = next_of k now old x (omega arith) same is in
      (omega (arith, next.0), next.1, next.2)

  -- the element at a place is set
  pub front_set : (k : ℕ) (xs : List A) (y : A) → k < length xs → (take (suc k) (set xs k y) ≡ take k xs ++ y ∷ []) × (drop (suc k) (set xs k y) ≡ drop (suc k) xs)
  front_set k [] y inside = absurd (omega arith)
  front_set zero (x ∷ xs) y inside = (refl, refl)
  front_set (suc k) (x ∷ xs) y inside =
      let next = front_set k xs y (omega arith) in
      (ap (λ rest. x ∷ rest) next.0, next.1)

  pub set_itself : (k : ℕ) (xs : List A) (x : A) → x ≡ get_or xs k x → set xs k x ≡ xs
  set_itself k [] x is = refl
  set_itself zero (y ∷ ys) x is = ap (λ z. z ∷ ys) is
  set_itself (suc k) (y ∷ ys) x is = ap (λ rest. y ∷ rest) (set_itself k ys x is)

  pub none_past : (k : ℕ) (xs : List A) → length xs ≤ k → drop k xs ≡ []
  none_past zero [] past = refl
  none_past (suc k) [] past = refl
  none_past zero (x ∷ xs) past = absurd (omega arith)
  none_past (suc k) (x ∷ xs) past = none_past k xs (omega arith)

  pub all_taken : (k : ℕ) (xs : List A) → drop k xs ≡ [] → take k xs ≡ xs
  all_taken zero [] none = refl
  all_taken zero (x ∷ xs) none = cc
  all_taken (suc k) [] none = refl
  all_taken (suc k) (x ∷ xs) none = ap (λ rest. x ∷ rest) (all_taken k xs none)

room_by : (o : Option Extent) (front rest : List Extent) (size : ℕ) → AreOnDisk (front ++ cons_option o rest) size → IfSome o (λ e. IsOnDisk e size)
room_by None front rest size room = tt
room_by (Some e) front rest size room = λ b inside. room b (some_behind front (e ∷ rest) b (some_first e rest b inside))

-- runs that write pages
module _ {T : Type 0} where
  placed_parts : (front rest : List (Page T)) → placed_extents (front ++ rest) ≡ placed_extents front ++ placed_extents rest
  placed_parts front rest = filter_map-append (λ (p : Page T). placed_extent p.place) front rest

  pub writes_none : {A : Type 0} (disk : DiskState) → ¬ A → WritesPages {T = T} [] A disk disk
  writes_none disk none = record { writes = only_none [] disk none; one_each = omega arith }

  pub writes_as : {A B : Type 0} (pages : List (Page T)) (old new : DiskState) → (A → B) → (B → A) → WritesPages pages A old new → WritesPages pages B old new
  writes_as pages old new to from run = record { writes = only_as (placed_extents pages) old new to from run.writes; one_each = run.one_each }

  pub writes_one : {A : Type 0} (items : List T) (place : Place) (old new : DiskState) → ¬ IsTouched place → (IsSome (stored_ref place) → new ≡ old) → CallsAtMost 1 old new
      → WritesOnly (placed_extents (record { items = items; place = place } ∷ [])) A old new → WritesPages (record { items = items; place = place } ∷ []) A old new
  writes_one items Touched old new settled same one writes = absurd (settled tt)
  writes_one items (Placed e) old new settled same one writes = record { writes = writes; one_each = one }
  writes_one items (Stored ref) old new settled same one writes =
      let calls : new.calls ≡ old.calls = ap (λ (disk : DiskState). disk.calls) (same refl) in
      record { writes = writes; one_each = omega (arith, calls) }

  -- some pages and then others
  pub writes_then : {A B : Type 0} (front rest : List (Page T)) (old mid new : DiskState) → ¬ A → WritesPages front A old mid → WritesPages rest B mid new → WritesPages (front ++ rest) B old new
  writes_then {B = B} front rest old mid new well one two =
      let xs : List Extent = placed_extents front in
      let ys : List Extent = placed_extents rest in
      record {
        writes =
            subst (λ (es : List Extent). WritesOnly es B old new) (sym (placed_parts front rest))
            (only_then xs ys (xs ++ ys) old mid new (some_front xs ys) (some_behind xs ys) well one.writes two.writes);
        one_each = omega (arith, one.one_each, two.one_each, ap length (placed_parts front rest), length-append xs ys);
      }

  -- a run that writes some pages writes them and others
  pub writes_more : {A : Type 0} (front rest : List (Page T)) (old new : DiskState) → WritesPages front A old new → WritesPages (front ++ rest) A old new
  writes_more front rest old new run =
      let xs : List Extent = placed_extents front in
      let ys : List Extent = placed_extents rest in
      record {
        writes = record {
          runs = run.writes.runs;
          outside = λ kept beside. run.writes.outside kept (beside_front kept xs ys (subst (AreBeside kept) (placed_parts front rest) beside));
        };
        one_each = omega (arith, run.one_each, ap length (placed_parts front rest), length-append xs ys);
      }

module _ {T : Type 0} (format : ItemFormat T) where
  -- the pages before a page stay written
  pub front_stays : {A : Type 0} (front : List (Page T)) (page : Page T) (rest : List (Page T)) (mid new : DiskState) → AreApart (placed_extents (front ++ page ∷ rest))
      → WritesPages (page ∷ []) A mid new → All (IsWritten format mid.now.seen) front → All (IsWritten format new.now.seen) front
  front_stays front page rest mid new apart one written =
      let xs : List Extent = placed_extents front in
      let beside = beside_between xs (placed_extents (page ∷ rest)) (subst AreApart (placed_parts front (page ∷ rest)) apart) in
      let first = beside_front (in_some xs) (placed_extents (page ∷ [])) (placed_extents rest) (subst (AreBeside (in_some xs)) (placed_parts (page ∷ []) rest) beside) in
      written_stay format (in_some xs) front mid.now.seen new.now.seen (λ b h. h) (one.writes.outside (in_some xs) first).seen written

  -- a page has room where all pages have it
  pub room_at : (pages : List (Page T)) (k : ℕ) (page : Page T) (size : ℕ) → k < length pages → page ≡ get_or pages k page → AreOnDisk (placed_extents pages) size
      → IfSome (placed_extent page.place) (λ e. IsOnDisk e size)
  room_at pages k page size inside is room =
      room_by (placed_extent page.place) (placed_extents (take k pages)) (placed_extents (drop (suc k) pages)) size
      (subst (λ (es : List Extent). AreOnDisk es size) (ap placed_extents (parted_at k pages page inside is) ∙ placed_parts (take k pages) (page ∷ drop (suc k) pages)) room)

  zip_same : (image : List ℕ) (pages : List (Page T)) → AllZip (StaysOrIsStored format image) pages pages
  zip_same image [] = tt
  zip_same image (page ∷ pages) = (inl refl, zip_same image pages)

  pub zip_front : (image : List ℕ) (front rest : List (Page T)) → All (IsWritten format image) front → AllZip (StaysOrIsStored format image) (front ++ rest) (stored format front ++ rest)
  zip_front image [] rest written = zip_same image rest
  zip_front image (page ∷ front) rest written =
      (inr (refl, All-head (IsWritten format image) page front written), zip_front image front rest (All-tail (IsWritten format image) page front written))

  -- the items stay
  items_stored : (pages : List (Page T)) → items_by_page (stored format pages) ≡ items_by_page pages
  items_stored [] = refl
  items_stored (page ∷ pages) = ap (λ rest. page.items ∷ rest) (items_stored pages)

  pub items_zipped : (image : List ℕ) (old new : List (Page T)) → AllZip (StaysOrIsStored format image) old new → items_by_page new ≡ items_by_page old
  items_zipped image [] [] zip = refl
  items_zipped image [] (n ∷ new) zip = absurd zip
  items_zipped image (o ∷ old) [] zip = absurd zip
  items_zipped image (o ∷ old) (n ∷ new) zip =
      ap₂ (λ items rest. items ∷ rest)
      (elim zip.0 [ inl same ↦ ap (λ (p : Page T). p.items) same | inr next ↦ ap (λ (p : Page T). p.items) next.0 ])
      (items_zipped image old new zip.1)

  -- they stay, with any answer
  pub items_kept : {A E : Type 0} (image : List ℕ) (old new : List (Page T)) (r : Result A E) → OnOk r (StoresTouched format image old new) → OnErr r (StoresSome format image old new)
      → items_by_page new ≡ items_by_page old
  items_kept image old new (Ok a) ok err = ap items_by_page ok.pages ∙ items_stored old
  items_kept image old new (Err e) ok err = err.items

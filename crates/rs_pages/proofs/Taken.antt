-- The blocks that pages take while they are placed, one after the other.
use Rattle.std.proofs.Common.{◌≡◌, ◌⊎◌, ℕ, ◌+◌, ◌<◌, ◌≤◌, List, [], ◌∷◌, length, Bool, true, false, refl, sym, ap, ◌∙◌, subst, inl, inr, arith, None}
use Rattle.std.specs.List.{cons_option}
use Rattle.std.specs.Prelude.{All}
use Rattle.std.proofs.lemmas.List.Elements.{All-cons}
use Rattle.std.proofs.lemmas.Bool.{cases_lt}
use Rattle.rs_extent.specs.declared.Extent.{Extent}
use Rattle.rs_extent.specs.Blocks.{is_used, IsLowest, Sets}
use Rattle.rs_extent.specs.Extents.{within, in_some, AreTaken}
use Rattle.rs_pages.proofs.FromBelow.{within_is, within_true, some_first, some_rest, some_split}
use Rattle.rs_page.specs.declared.place.Place.{Place}
use Rattle.rs_page.specs.declared.place.Place.TheVariants.{Touched, Placed, Stored}
use Rattle.rs_page.specs.Format.{ItemFormat}
use Rattle.rs_page.specs.Pages.{Page, IsTouched, placed_extent, placed_extents}
use Rattle.rs_page.specs.Placing.{PlacesOne, Places}
use Rattle.rs_pages.specs.Storing.{PlacesTouched}
use Rattle.rs_pages.proofs.Touched.{rest_none}

later_none : (e : Extent) (es : List Extent) (b : ℕ) (r : Bool) → in_some es b ≡ r → in_some (e ∷ es) b ≡ false → in_some es b ≡ false
later_none e es b true is h = let there : in_some (e ∷ es) b ≡ true = some_rest e es b is in cc
later_none e es b false is h = is

first_none : (e : Extent) (es : List Extent) (b : ℕ) (r : Bool) → within e b ≡ r → in_some (e ∷ es) b ≡ false → within e b ≡ false
first_none e es b true is h = let there : in_some (e ∷ es) b ≡ true = some_first e es b is in cc
first_none e es b false is h = is

-- a block outside an extent is before it or after it
outside : (e : Extent) (b : ℕ) → within e b ≡ false → (b < e.first) ⊎ (e.first + e.blocks ≤ b)
outside e b h =
    elim (cases_lt b e.first) [
      | inl low ↦ inl low
      | inr above ↦ elim (cases_lt b (e.first + e.blocks)) [ inl below ↦ absurd (let here : within e b ≡ true = within_true e b above below in cc) | inr high ↦ inr high ]
    ]

-- a block of later extents is not in the first one, which is used by then
apart : (e : Extent) (es : List Extent) (between new : List Bool) (b : ℕ) (r : Bool) → in_some es b ≡ r → is_used between b ≡ true → AreTaken between new es → in_some es b ≡ false
apart e es between new b true is used taken = let free = taken.before b is in cc
apart e es between new b false is used taken = is

-- a block outside an extent stays as it was
not_set : (old between : List Bool) (e : Extent) (b : ℕ) → Sets old between e true → within e b ≡ false → is_used between b ≡ is_used old b
not_set old between e b sets h = elim (outside e b h) [ inl low ↦ sets.before b low | inr high ↦ sets.after b high ]

free_before : (old between new : List Bool) (e : Extent) (es : List Extent) (b : ℕ) (r : Bool) → within e b ≡ r → Sets old between e true → AreTaken between new es → in_some es b ≡ true → is_used old b ≡ false
free_before old between new e es b true is sets rest later =
    let at = within_is e b is in
    let used = sets.within b at.0 at.1 in
    let free = rest.before b later in
    cc
free_before old between new e es b false is sets rest later = sym (not_set old between e b sets is) ∙ rest.before b later

taken_cons : (old between new : List Bool) (n : ℕ) (e : Extent) (es : List Extent) → IsLowest old n e → Sets old between e true → AreTaken between new es → AreTaken old new (e ∷ es)
taken_cons old between new n e es lowest sets rest =
    record {
      size = rest.size ∙ sets.size;
      inside = λ b h. elim (some_split e es b h) [ inl here ↦ (let at = within_is e b here in omega (arith, at.1, lowest.inside, lowest.blocks)) | inr later ↦ subst (λ (m : ℕ). b < m) sets.size (rest.inside b later) ];
      before = λ b h. elim (some_split e es b h) [ inl here ↦ (let at = within_is e b here in lowest.is_free b at.0 at.1) | inr later ↦ free_before old between new e es b (within e b) refl sets rest later ];
      after = λ b h. elim (some_split e es b h) [
        | inl here ↦ (let at = within_is e b here in let used : is_used between b ≡ true = sets.within b at.0 at.1 in rest.others b (apart e es between new b (in_some es b) refl used rest) ∙ used)
        | inr later ↦ rest.after b later
      ];
      others = λ b h. rest.others b (later_none e es b (in_some es b) refl h) ∙ not_set old between e b sets (first_none e es b (within e b) refl h);
      apart = ((λ b here. let at = within_is e b here in apart e es between new b (in_some es b) refl (sets.within b at.0 at.1) rest), rest.apart);
    }

taken_none : (old new : List Bool) → new ≡ old → AreTaken old new []
taken_none old new same =
    record {
      size = ap length same;
      inside = λ b h. cc;
      before = λ b h. cc;
      after = λ b h. cc;
      others = λ b h. ap (λ used. is_used used b) same;
      apart = tt;
    }

taken_by : {T : Type 0} (format : ItemFormat T) (old between new : List Bool) (items : List T) (place : Place) (page : Page T) (es : List Extent)
    → PlacesOne format old (record { items = items; place = place }) between page → placed_extent place ≡ None → AreTaken between new es → AreTaken old new (cons_option (placed_extent page.place) es)
taken_by format old between new items Touched page es one none rest =
    subst (λ (p : Place). AreTaken old new (cons_option (placed_extent p) es)) (sym one.1.placed) (taken_cons old between new _ one.1.extent es one.1.lowest one.1.takes rest)
taken_by format old between new items (Placed e) page es one none rest = cc
taken_by format old between new items (Stored ref) page es one none rest =
    subst (λ (p : Place). AreTaken old new (cons_option (placed_extent p) es)) (sym one.1.1) (subst (λ (used : List Bool). AreTaken used new es) one.1.0 rest)

-- pages that had no blocks take the extents that they are given
pub taken_places : {T : Type 0} (format : ItemFormat T) (old new : List Bool) (pages pages' : List (Page T)) → Places format old pages new pages' → placed_extents pages ≡ [] → AreTaken old new (placed_extents pages')
taken_places format old new [] [] places none = taken_none old new places
taken_places format old new [] (s' ∷ pages') places none = absurd places
taken_places format old new (s ∷ pages) [] places none = absurd places
taken_places format old new (s ∷ pages) (s' ∷ pages') places none =
    let both = rest_none (placed_extent s.place) (placed_extents pages) none in
    taken_by format old places.0 new s.items s.place s' (placed_extents pages') places.1 both.0 (taken_places format places.0 new pages pages' places.2 both.1)

-- a page that was placed is not touched
pub settled_by : {T : Type 0} (format : ItemFormat T) (old new : List Bool) (items : List T) (place : Place) (page : Page T) → PlacesOne format old (record { items = items; place = place }) new page → ¬ IsTouched page.place
settled_by format old new items Touched page one = subst (λ (p : Place). ¬ IsTouched p) (sym one.1.placed) (λ h. h)
settled_by format old new items (Placed e) page one = subst (λ (p : Place). ¬ IsTouched p) (sym one.1.1) (λ h. h)
settled_by format old new items (Stored ref) page one = subst (λ (p : Place). ¬ IsTouched p) (sym one.1.1) (λ h. h)

-- nor is any of several
pub settled_places : {T : Type 0} (format : ItemFormat T) (old new : List Bool) (pages pages' : List (Page T)) → Places format old pages new pages' → All (λ page. ¬ IsTouched page.place) pages'
settled_places format old new [] [] places = λ k d inside. absurd (omega arith)
settled_places format old new [] (s' ∷ pages') places = absurd places
settled_places format old new (s ∷ pages) [] places = absurd places
settled_places {T} format old new (s ∷ pages) (s' ∷ pages') places =
    All-cons (λ (page : Page T). ¬ IsTouched page.place) s' pages' (settled_by format old places.0 s.items s.place s' places.1) (settled_places format places.0 new pages pages' places.2)

-- The result of placing every touched page, of lists that are these.
pub places_touched : {T : Type 0} (format : ItemFormat T) (used used' : List Bool) (old new was now : List (Page T)) → old ≡ was → now ≡ new → Places format used old used' new → PlacesTouched format used was used' now
places_touched {T} format used used' old new was now before after places =
    subst (λ (pages : List (Page T)). PlacesTouched format used pages used' now) before
    (subst (λ (pages : List (Page T)). PlacesTouched format used old used' pages) (sym after)
    (record { places = places; placed = settled_places format used used' old new places; taken = taken_places format used used' old new places }))

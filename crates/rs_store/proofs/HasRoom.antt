-- A command that has a plan has room.
use Rattle.std.proofs.Common.{◌≡◌, inl, inr, ℕ, zero, suc, ◌+◌, ◌<◌, Bool, true, List, [], ◌∷◌, ◌++◌, Option, Some, None, refl, sym, ◌∙◌, subst, arith}
use Rattle.std.specs.List.{cons_option}
use Rattle.std.proofs.lemmas.Bool.{cases_lt}
use Rattle.std.proofs.lemmas.List.{ext_get_or, append_assoc}
use Rattle.rs_store.proofs.FromBelow.{needed, needed_anywhere}
use Rattle.rs_extent.specs.declared.Extent.{Extent}
use Rattle.rs_extent.specs.Blocks.{is_used, IsFreeRun, IsLowest, Sets}
use Rattle.rs_body.specs.Blocks.{blocks_of}
use Rattle.rs_page.specs.declared.place.Place.{Place}
use Rattle.rs_page.specs.declared.place.Place.TheVariants.{Touched, Placed, Stored}
use Rattle.rs_page.specs.Format.{ItemFormat}
use Rattle.rs_page.specs.Items.{record_format, change_format}
use Rattle.rs_page.specs.Pages.{Page, placed_extent, placed_extents, blocks_needed}
use Rattle.rs_page.specs.Placing.{PlacesOne, Places}
use Rattle.rs_model.specs.declared.command.Command.{Command}
use Rattle.rs_image.specs.declared.contents.Contents.{Contents}
use Rattle.rs_image.specs.StateOfImage.{directory_bytes_of}
use Rattle.rs_image.specs.Rooted.{Rooted, AreUsed}
use Rattle.rs_plan.specs.declared.plan.Plan.{Plan}
use Rattle.rs_plan.specs.Room.{Takes, TakesEach, HasNoRoom, pages_needed, lists_needed, bodies_needed, bodies_of_command}
use Rattle.rs_plan.specs.Placed.{AreUnplaced, HasItsPlaces}
use Rattle.rs_plan.specs.Plans.{IsFullFor, IsPlanned, command_needed, lists_after}

-- A root uses exactly one set of blocks.
used_once : (r : Rooted) (a b : List Bool) → AreUsed r a → AreUsed r b → a ≡ b
used_once r a b one two = ext_get_or true a b (one.blocks ∙ sym two.blocks) (λ i lt. one.each i (omega (arith, lt, one.blocks)) ∙ sym (two.each i (omega (arith, lt, one.blocks))))

-- The lowest run is unique, and so is the set after it is taken.
sets_at : (old a b : List Bool) (e : Extent) (i : ℕ) → Sets old a e true → Sets old b e true → is_used a i ≡ is_used b i
sets_at old a b e i one two = elim (cases_lt i e.first) [
  | inl low ↦ one.before i low ∙ sym (two.before i low)
  | inr from ↦ elim (cases_lt i (e.first + e.blocks)) [
    | inl until ↦ one.within i from until ∙ sym (two.within i from until)
    | inr high ↦ one.after i high ∙ sym (two.after i high)
  ]
]

sets_once : (old a b : List Bool) (e : Extent) → Sets old a e true → Sets old b e true → a ≡ b
sets_once old a b e one two = ext_get_or true a b (one.size ∙ sym two.size) (λ i lt. sets_at old a b e i one two)

not_lower : (used : List Bool) (n : ℕ) (a b : Extent) → IsLowest used n a → IsLowest used n b → a.first < b.first → ⊥
not_lower used n a b one two lt = two.lowest a.first lt (subst (λ (k : ℕ). IsFreeRun used a.first k) one.blocks one.is_free)

first_once : (used : List Bool) (n : ℕ) (a b : Extent) (u v : List Bool) → Takes used n a u → Takes used n b v → a.first ≡ b.first
first_once used zero a b u v one two = one.nowhere refl ∙ sym (two.nowhere refl)
first_once used (suc n) a b u v one two =
    let a_is = one.lowest (omega arith) in
    let b_is = two.lowest (omega arith) in
    elim (cases_lt a.first b.first) [
      | inl low ↦ absurd (not_lower used (suc n) a b a_is b_is low)
      | inr rest ↦ elim (cases_lt b.first a.first) [
        | inl high ↦ absurd (not_lower used (suc n) b a b_is a_is high)
        | inr same ↦ omega (arith, rest, same)
      ]
    ]

extent_once : (used : List Bool) (n : ℕ) (a b : Extent) (u v : List Bool) → Takes used n a u → Takes used n b v → a ≡ b
extent_once used n a b u v one two =
    let first : a.first ≡ b.first = first_once used n a b u v one two in
    let blocks : a.blocks ≡ b.blocks = one.blocks ∙ sym two.blocks in
    λ i. record { first = first i; blocks = blocks i }

takes_once : (used : List Bool) (n : ℕ) (a b : Extent) (u v : List Bool) → Takes used n a u → Takes used n b v → u ≡ v
takes_once used n a b u v one two =
    sets_once used u v a one.sets (subst (λ (e : Extent). Sets used v e true) (sym (extent_once used n a b u v one two)) two.sets)

-- If some lengths lack room, but the first of them got their extents, the others lack room after these extents.
none_behind : (used : List Bool) (ns : List ℕ) (es : List Extent) (after : List Bool) (ms : List ℕ) → TakesEach used ns es after → HasNoRoom used (ns ++ ms) → HasNoRoom after ms
none_behind used [] [] after ms takes none = subst (λ (w : List Bool). HasNoRoom w ms) (sym takes) none
none_behind used [] (e ∷ es) after ms takes none = absurd takes
none_behind used (n ∷ ns) [] after ms takes none = absurd takes
none_behind used (n ∷ ns) (e ∷ es) after ms takes none = elim none [
  | inl here ↦
      let lowest = takes.1.lowest here.0 in
      absurd (here.1 e.first (subst (λ (k : ℕ). IsFreeRun used e.first k) lowest.blocks lowest.is_free))
  | inr later ↦
      none_behind takes.0 ns es after ms takes.2
      (subst (λ (w : List Bool). HasNoRoom w (ns ++ ms)) (sym (takes_once used n e later.1 takes.0 later.0 takes.1 later.2)) later.3)
]

-- a page of these items, at this place
abbrev at : {T : Type 0} → List T → Place → Page T
at items place = record { items = items; place = place }

-- Where a page was placed, and it and later items lack room, the later items lack room after it.
one_had_room : {T : Type 0} (format : ItemFormat T) (used used' : List Bool) (items : List T) (place : Place) (y : Page T) (xs : List (Page T)) (rest : List ℕ)
    → PlacesOne format used (at items place) used' y → cons_option (placed_extent place) (placed_extents xs) ≡ []
    → HasNoRoom used (pages_needed format (at items place ∷ xs) ++ rest) → HasNoRoom used' (pages_needed format xs ++ rest)
one_had_room format used used' items Touched y xs rest h unplaced none =
    let takes : Takes used (blocks_needed format items) h.1.extent used' =
    record { blocks = h.1.lowest.blocks; nowhere = λ zero. absurd (omega (arith, zero, needed format items)); lowest = λ some. h.1.lowest; sets = h.1.takes } in
    elim none [
      | inl here ↦ absurd (here.1 h.1.extent.first (subst (λ (k : ℕ). IsFreeRun used h.1.extent.first k) h.1.lowest.blocks h.1.lowest.is_free))
      | inr later ↦ subst (λ (w : List Bool). HasNoRoom w (pages_needed format xs ++ rest))
          (takes_once used (blocks_needed format items) later.1 h.1.extent later.0 used' later.2 takes) later.3
    ]
one_had_room format used used' items (Placed e) y xs rest h unplaced none = cc
one_had_room format used used' items (Stored ref) y xs rest h unplaced none = subst (λ (w : List Bool). HasNoRoom w (pages_needed format xs ++ rest)) (sym h.1.0) none

rest_none : {A : Type 0} (o : Option A) (rest : List A) → cons_option o rest ≡ [] → rest ≡ []
rest_none None rest h = h
rest_none (Some a) rest h = cc

pages_had_room : {T : Type 0} (format : ItemFormat T) (used used' : List Bool) (xs ys : List (Page T)) (rest : List ℕ) → Places format used xs used' ys → placed_extents xs ≡ []
    → HasNoRoom used (pages_needed format xs ++ rest) → HasNoRoom used' rest
pages_had_room format used used' [] [] rest h unplaced none = subst (λ (w : List Bool). HasNoRoom w rest) (sym h) none
pages_had_room format used used' [] (y ∷ ys) rest h unplaced none = absurd h
pages_had_room format used used' (x ∷ xs) [] rest h unplaced none = absurd h
pages_had_room format used used' (x ∷ xs) (y ∷ ys) rest h unplaced none =
    pages_had_room format h.0 used' xs ys rest h.2 (rest_none (placed_extent x.place) (placed_extents xs) unplaced)
    (one_had_room format used h.0 x.items x.place y xs rest h.1 unplaced none)

-- Lists that have their places had room for them.
lists_had_room : (used : List Bool) (bodies : List Extent) (c : Contents) (p : Plan) → HasItsPlaces used bodies c p → AreUnplaced c → HasNoRoom used (lists_needed c) → ⊥
lists_had_room used bodies c p placed unplaced none =
    let catalogue : List ℕ = pages_needed record_format c.catalogue in
    let history : List ℕ = pages_needed change_format c.history.pages in
    let directory : List ℕ = blocks_of (directory_bytes_of c) ∷ [] in
    let all : HasNoRoom used (catalogue ++ (history ++ directory)) = subst (λ (ns : List ℕ). HasNoRoom used ns) (append_assoc catalogue history directory) none in
    let behind : HasNoRoom placed.lists.after_catalogue (history ++ directory) =
    pages_had_room record_format used placed.lists.after_catalogue c.catalogue p.contents.catalogue (history ++ directory) placed.lists.catalogue unplaced.catalogue all in
    none_behind placed.lists.after_history directory (p.directory ∷ []) placed.after [] (placed.after, placed.lists.directory, refl)
    (pages_had_room change_format placed.lists.after_catalogue placed.lists.after_history c.history.pages p.contents.history.pages directory placed.lists.history unplaced.history behind)

-- A plan that found its places had room.
pub planned_has_room : (old : Rooted) (command : Command) (moment : ℕ) (p : Plan) → IsPlanned old command moment p → IsFullFor old command moment → ⊥
planned_has_room old command moment p planned full =
    let turn = planned.in_turn in
    let needs = command_needed old.contents command moment in
    let none : HasNoRoom turn.used needs =
    subst (λ (w : List Bool). HasNoRoom w needs) (used_once old full.used turn.used full.are_used turn.are_used) full.lacks in
    lists_had_room turn.after_bodies p.bodies.items (lists_after old.contents command moment p.bodies.items) p turn.placed turn.unplaced
    (subst (HasNoRoom turn.after_bodies) (sym (needed_anywhere old.contents command moment p.bodies.items))
    (none_behind turn.used (bodies_needed (bodies_of_command command)) p.bodies.items turn.after_bodies (lists_needed (lists_after old.contents command moment [])) turn.bodies none))

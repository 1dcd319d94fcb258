-- A disk that has a layout had room: a length has only one lowest run, so every part that took its run had one.
use Rattle.std.proofs.Common.{◌≡◌, inl, inr, ◌<◌, ℕ, zero, suc, Bool, true, List, [], ◌∷◌, ◌++◌, map, refl, sym, ◌∙◌, ap₂, subst, arith, append_assoc}
use Rattle.std.proofs.lemmas.Bool.{cases_lt}
use Rattle.std.proofs.lemmas.List.{ext_get_or}
use Rattle.rs_extent.specs.declared.Extent.{Extent}
use Rattle.rs_extent.specs.Blocks.{IsLowest}
use Rattle.rs_extent.specs.Extents.{AreTaken}
use Rattle.rs_body.specs.Blocks.{blocks_of}
use Rattle.rs_page.specs.Format.{ItemFormat}
use Rattle.rs_page.specs.Items.{record_format, change_format}
use Rattle.rs_page.specs.Pages.{Page, blocks_needed}
use Rattle.rs_page.specs.Placing.{Places, PlacesOne}
use Rattle.rs_pages.specs.Rule.{touched}
use Rattle.rs_pages.specs.Dropped.{cut_full}
use Rattle.rs_catalogue.specs.Catalogue.{records_of}
use Rattle.rs_changes.specs.History.{changes_of}
use Rattle.rs_image.specs.declared.contents.Contents.{Contents}
use Rattle.rs_image.specs.Reach.{blocks_of_disk}
use Rattle.rs_image.specs.StateOfImage.{directory_bytes_of}
use Rattle.rs_plan.specs.Room.{HasNoRun, HasNoRoom, Takes, TakesEach, pages_needed}
use Rattle.rs_copy.proofs.FromBelow.{taken_lowest, same_taken, needed}
use Rattle.rs_copy.specs.Laying.{as_published, with_extents, copied_lists, records_needed, copy_needed, HasSlotsAlone, ArePlacedInTurn, IsLaidOut, LacksCopyRoom}

abbrev pub directory_needed : Contents → List ℕ
directory_needed c = blocks_of (directory_bytes_of c) ∷ []

-- A length has only one lowest run.
not_lower : (used : List Bool) (n : ℕ) (e f : Extent) → IsLowest used n e → IsLowest used n f → e.first < f.first → ⊥
not_lower used n e f a b lower = b.lowest e.first lower (λ i from until. a.is_free i from (omega (arith, until, a.blocks)))

lowest_once : (used : List Bool) (n : ℕ) (e f : Extent) → IsLowest used n e → IsLowest used n f → e.first ≡ f.first
lowest_once used n e f a b = elim (cases_lt e.first f.first) [
  | inl lower ↦ absurd (not_lower used n e f a b lower)
  | inr from ↦ elim (cases_lt f.first e.first) [
    | inl lower ↦ absurd (not_lower used n f e b a lower)
    | inr until ↦ omega (arith, from, until)
  ]
]

first_once : (used one other : List Bool) (n : ℕ) (e f : Extent) → Takes used n e one → Takes used n f other → e.first ≡ f.first
first_once used one other zero e f a b = a.nowhere refl ∙ sym (b.nowhere refl)
first_once used one other (suc n) e f a b = lowest_once used (suc n) e f (a.lowest (omega arith)) (b.lowest (omega arith))

-- So taking it gives only one extent, and leaves only one set of used blocks.
extent_once : (used one other : List Bool) (n : ℕ) (e f : Extent) → Takes used n e one → Takes used n f other → e ≡ f
extent_once used one other n e f a b =
    let first : e.first ≡ f.first = first_once used one other n e f a b in
    let blocks : e.blocks ≡ f.blocks = a.blocks ∙ sym b.blocks in
    λ i. record { first = first i; blocks = blocks i }

set_once : (used one other : List Bool) (n : ℕ) (e f : Extent) → Takes used n e one → Takes used n f other → one ≡ other
set_once used one other n e f a b =
    same_taken used one other (f ∷ [])
    (subst (λ (x : Extent). AreTaken used one (x ∷ [])) (extent_once used one other n e f a b) (taken_lowest used one n e a))
    (taken_lowest used other n f b)

-- The same for runs that are taken in turn.
each_once : (used one other : List Bool) (ns : List ℕ) (es fs : List Extent) → TakesEach used ns es one → TakesEach used ns fs other → (es ≡ fs) × (one ≡ other)
each_once used one other [] [] [] a b = (refl, a ∙ sym b)
each_once used one other [] [] (f ∷ fs) a b = absurd b
each_once used one other [] (e ∷ es) fs a b = absurd a
each_once used one other (n ∷ ns) [] fs a b = absurd a
each_once used one other (n ∷ ns) (e ∷ es) [] a b = absurd b
each_once used one other (n ∷ ns) (e ∷ es) (f ∷ fs) a b =
    let same : e ≡ f = extent_once used a.0 b.0 n e f a.1 b.1 in
    let sets : b.0 ≡ a.0 = set_once used b.0 a.0 n f e b.1 a.1 in
    let rest = each_once a.0 one other ns es fs a.2 (subst (λ (u : List Bool). TakesEach u ns fs other) sets b.2) in
    (ap₂ (λ (x : Extent) (l : List Extent). x ∷ l) same rest.0, rest.1)

-- A part that took a run had one.
had_run : (used after : List Bool) (n : ℕ) (e : Extent) → Takes used n e after → HasNoRun used n → ⊥
had_run used after n e takes none = none.1 e.first (λ b from until. (takes.lowest none.0).is_free b from (omega (arith, until, takes.blocks)))

-- If there is no room from one part on, and that part took its run, there is no room from the next part on.
room_behind : (used after : List Bool) (n : ℕ) (e : Extent) (rest : List ℕ) → Takes used n e after → HasNoRoom used (n ∷ rest) → HasNoRoom after rest
room_behind used after n e rest takes none = elim none [
  | inl here ↦ absurd (had_run used after n e takes here)
  | inr later ↦ subst (λ (u : List Bool). HasNoRoom u rest) (set_once used later.0 after n later.1 e later.2 takes) later.3
]

had_room : (used after : List Bool) (ns : List ℕ) (es : List Extent) → TakesEach used ns es after → HasNoRoom used ns → ⊥
had_room used after [] es takes none = absurd none
had_room used after (n ∷ ns) [] takes none = absurd takes
had_room used after (n ∷ ns) (e ∷ es) takes none = had_room takes.0 after ns es takes.2 (room_behind used takes.0 n e ns takes.1 none)

-- A page that is placed takes its run.
page_takes : {T : Type 0} (format : ItemFormat T) (used used' : List Bool) (piece : List T) (y : Page T) → (h : PlacesOne format used (touched piece) used' y)
    → Takes used (blocks_needed format piece) h.1.extent used'
page_takes format used used' piece y h =
    record { blocks = h.1.lowest.blocks; nowhere = λ zero. absurd (omega (arith, zero, needed format piece)); lowest = λ some. h.1.lowest; sets = h.1.takes }

pages_behind : {T : Type 0} (format : ItemFormat T) (used used' : List Bool) (pieces : List (List T)) (ys : List (Page T)) (rest : List ℕ)
    → Places format used (map touched pieces) used' ys → HasNoRoom used (pages_needed format (map touched pieces) ++ rest) → HasNoRoom used' rest
pages_behind format used used' [] [] rest places none = subst (λ (u : List Bool). HasNoRoom u rest) (sym places) none
pages_behind format used used' [] (y ∷ ys) rest places none = absurd places
pages_behind format used used' (piece ∷ pieces) [] rest places none = absurd places
pages_behind format used used' (piece ∷ pieces) (y ∷ ys) rest places none =
    pages_behind format places.0 used' pieces ys rest places.2
    (room_behind used places.0 (blocks_needed format piece) places.1.1.extent (pages_needed format (map touched pieces) ++ rest)
    (page_takes format used places.0 piece y places.1) none)

-- the needed numbers of blocks, list for list
pub needed_in_turn : (c : Contents) → copy_needed c ≡ pages_needed record_format c.catalogue ++ (pages_needed change_format c.history.pages ++ (pages_needed record_format c.published ++ directory_needed c))
needed_in_turn c =
    append_assoc (pages_needed record_format c.catalogue ++ pages_needed change_format c.history.pages) (pages_needed record_format c.published) (directory_needed c)
    ∙ append_assoc (pages_needed record_format c.catalogue) (pages_needed change_format c.history.pages) (pages_needed record_format c.published ++ directory_needed c)

-- The lists and their directory took their runs.
lists_had_room : (used after : List Bool) (c placed : Contents) (bodies : List Extent) (directory : Extent)
    → ArePlacedInTurn used (copied_lists c bodies) placed directory after → HasNoRoom used (copy_needed (copied_lists c bodies)) → ⊥
lists_had_room used after c placed bodies directory t none =
    let lists = copied_lists c bodies in
    let held = with_extents (records_of c.catalogue) bodies in
    let a = pages_needed record_format lists.catalogue in
    let b = pages_needed change_format lists.history.pages in
    let p = pages_needed record_format lists.published in
    let d = blocks_of (directory_bytes_of lists) ∷ [] in
    let all : HasNoRoom used (a ++ (b ++ (p ++ d))) = subst (HasNoRoom used) (needed_in_turn lists) none in
    let one : HasNoRoom t.after_catalogue (b ++ (p ++ d)) =
    pages_behind record_format used t.after_catalogue (cut_full held) placed.catalogue (b ++ (p ++ d)) t.catalogue all in
    let two : HasNoRoom t.after_history (p ++ d) =
    pages_behind change_format t.after_catalogue t.after_history (cut_full (changes_of c.history.pages)) placed.history.pages (p ++ d) t.history one in
    let three : HasNoRoom t.after_published d =
    pages_behind record_format t.after_history t.after_published (cut_full (map (as_published held) (records_of c.published))) placed.published d t.published two in
    room_behind t.after_published after (blocks_of (directory_bytes_of lists)) directory [] t.last three

-- A size has only one set in which only the slots are used.
slots_once : (size : ℕ) (one other : List Bool) → HasSlotsAlone size one → HasSlotsAlone size other → one ≡ other
slots_once size one other a b =
    ext_get_or true one other (a.blocks ∙ sym b.blocks)
    (λ i lt. let on : i < blocks_of_disk size = omega (arith, lt, a.blocks) in a.slots i on ∙ sym (b.slots i on))

-- So a disk that a copy was laid out on has room for it.
pub has_room : (size : ℕ) (c placed : Contents) (directory : Extent) (used : List Bool) → IsLaidOut size c placed directory used → LacksCopyRoom size c → ⊥
has_room size c placed directory used laid lacks =
    let ns = records_needed (records_of c.catalogue) in
    let start : lacks.start ≡ laid.start = slots_once size lacks.start laid.start lacks.slots_alone laid.slots_alone in
    elim lacks.fails [
      | inl none ↦ had_room laid.start laid.after_bodies ns laid.bodies laid.held (subst (λ (u : List Bool). HasNoRoom u ns) start none)
      | inr none ↦
          let same = each_once laid.start none.0 laid.after_bodies ns none.1 laid.bodies (subst (λ (u : List Bool). TakesEach u ns none.1 none.0) start none.2) laid.held in
          lists_had_room laid.after_bodies used c placed laid.bodies directory laid.lists
          (subst (λ (l : List Extent). HasNoRoom laid.after_bodies (copy_needed (copied_lists c l))) same.0
          (subst (λ (u : List Bool). HasNoRoom u (copy_needed (copied_lists c none.1))) same.1 none.3))
    ]

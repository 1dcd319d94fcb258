-- The blocks that a plan gives back, by the parts of the blocks that the old root reaches.
use Rattle.std.proofs.Common.{◌≡◌, ◌⊎◌, inl, inr, ℕ, ◌≤◌, Bool, true, ◌&&◌, ◌||◌, not, nat_lt, List, [], refl, sym, ◌∙◌, ap, subst, false, cond, ◌∷◌, ◌++◌}
use Rattle.rs_extent.specs.declared.Extent.{Extent}
use Rattle.rs_extent.specs.Extents.{in_some, AreApart, IsSubset, within, AreDisjoint}
use Rattle.rs_commit.specs.declared.root.Root.{Root}
use Rattle.rs_record.specs.declared.record.Record.{Record}
use Rattle.rs_page.specs.declared.place.PageRef.{PageRef}
use Rattle.rs_page.specs.Format.{ItemFormat}
use Rattle.rs_page.specs.Items.{record_format, change_format}
use Rattle.rs_page.specs.Pages.{Page, stored_refs, extents_of, stored, same_page}
use Rattle.rs_page.specs.Placing.{Places}
use Rattle.rs_pages.specs.Dropped.{front_pages, ReplacesFront}
use Rattle.rs_catalogue.specs.Catalogue.{records_of}
use Rattle.rs_image.specs.declared.contents.Contents.{Contents}
use Rattle.rs_pages.specs.Storing.{unshared}
use Rattle.rs_image.specs.Reach.{reach, bodies_of}
use Rattle.rs_image.specs.Rooted.{rooted}
use Rattle.rs_plan.specs.declared.plan.Plan.{Plan}
use Rattle.rs_plan.specs.Allowed.{changes_dropped}
use Rattle.rs_plan.specs.Plans.{places, TakesAndGives}
use Rattle.rs_plan.proofs.Sublists.{mapped, some_of}
use Rattle.rs_plan.proofs.Placing.{places_stored}
use Rattle.rs_plan.proofs.Stored.{kept_refs, refs_kept, stored_some, placed_some}
use Rattle.rs_plan.proofs.Separate.{joined, AreSeparate}
use Rattle.rs_plan.proofs.Parts.{pages_in, changes_in, shown_in, bodies_in, written, given_pages, given_changes}
use Rattle.rs_plan.proofs.Freed.{PartTurns, PagesTurn, freed_apart, freed_reached, next_reaches}
use Rattle.rs_plan.proofs.Losing.{LosesAll, stands_in}
use Rattle.rs_plan.proofs.FreedParts.{Replaces, front_replaced, replaced, grown, none_in, beside_published}
use Rattle.std.specs.Prelude.{All, not}
use Rattle.std.specs.List.{list_any}
use Rattle.std.proofs.lemmas.List.{map-append}
use Rattle.std.proofs.lemmas.List.Elements.{All-head, All-tail}
use Rattle.rs_plan.proofs.FromBelow.{not_true, not_both, some_first, some_split, some_behind}
use Rattle.rs_page.specs.SharedPages.{IsSublist}
use Rattle.rs_plan.proofs.Unshared.{published_some, unshared_some, unshared_apart}

-- The catalogue loses touched pages: those are freed whose entry no published page has.
module _ (gone old kept after published : List PageRef) (made : List Extent) (loses : LosesAll gone old kept) (apart : AreApart (extents_of old))
    (beside : AreDisjoint (in_some (extents_of old)) (in_some (extents_of (unshared published old))))
    (comes : (k : ℕ) → in_some (extents_of after) k ≡ true → (in_some (extents_of kept) k ≡ true) ⊎ (in_some made k ≡ true))
    (stay : IsSubset (in_some (extents_of kept)) (in_some (extents_of after))) (written : IsSubset (in_some made) (in_some (extents_of after))) where
  turns : PartTurns (extents_of old) (extents_of gone) (extents_of kept) []
  turns = loses.turns apart

  abbrev freed : List Extent
  freed = extents_of (unshared gone published)

  abbrev IsShown : ℕ → Type 0
  IsShown k = (in_some (extents_of after) k ≡ true) ⊎ (in_some (extents_of (unshared published after)) k ≡ true)

  -- a block of a published page is shown again
  shown : (k : ℕ) → in_some (extents_of published) k ≡ true → IsShown k
  shown k is = published_some published after k is

  -- a freed block is a block of a touched page
  freed_is : (k : ℕ) → in_some freed k ≡ true → in_some (extents_of gone) k ≡ true
  freed_is k is = unshared_some gone published k is

  -- an entry of the old pages that no published page has shares no block with one
  entry_alone : (e : PageRef) (k : ℕ) → IsSublist (e ∷ []) old → list_any (same_page e) published ≡ false → within e.extent k ≡ true
      → in_some (extents_of published) k ≡ true → ⊥
  entry_alone e k one alone here there =
      let at = stands_in e old one in
      let refs : List PageRef = at.front ++ e ∷ at.back in
      let reached : in_some (extents_of old) k ≡ true =
      subst (λ (l : List PageRef). in_some (extents_of l) k ≡ true) (sym at.is)
      (subst (λ (l : List Extent). in_some l k ≡ true) (sym (map-append (λ (r : PageRef). r.extent) at.front (e ∷ at.back)))
      (some_behind (extents_of at.front) (extents_of (e ∷ at.back)) k (some_first e.extent (extents_of at.back) k here))) in
      beside_published e at.front at.back k (subst (λ (r : List PageRef). AreApart (extents_of r)) at.is apart) here published alone
      (subst (λ (r : List PageRef). in_some (extents_of (unshared published r)) k ≡ false) at.is (beside k reached)) there

  -- a freed block is not published
  freed_alone : (entries : List PageRef) → All (λ e. IsSublist (e ∷ []) old) entries → (k : ℕ) → in_some (extents_of (unshared entries published)) k ≡ true
      → in_some (extents_of published) k ≡ true → ⊥
  freed_alone [] all k is there = none_in k _ is
  freed_alone (e ∷ entries) all k is there =
      one (list_any (same_page e) published) refl is (λ here. freed_alone entries (All-tail (λ e. IsSublist (e ∷ []) old) e entries all) k here there)
    where
      one : (t : Bool) → list_any (same_page e) published ≡ t
          → in_some (extents_of (cond (not t) (e ∷ unshared entries published) (unshared entries published))) k ≡ true
          → (in_some (extents_of (unshared entries published)) k ≡ true → ⊥) → ⊥
      one true shared here later = later here
      one false alone here later = elim (some_split e.extent (extents_of (unshared entries published)) k here) [
        | inl first ↦ entry_alone e k (All-head (λ e. IsSublist (e ∷ []) old) e entries all) alone first there
        | inr rest ↦ later rest
      ]

  not_freed : (k : ℕ) → in_some (extents_of gone) k ≡ false → in_some freed k ≡ false
  not_freed k none = not_true (in_some freed k) (λ is. not_both (in_some (extents_of gone) k) (freed_is k is) none)

  pub pages_turn : PagesTurn (extents_of old) (extents_of (unshared published old)) freed [] (extents_of after) (extents_of (unshared published after)) made
  pages_turn = record {
    reached_a = λ k is. turns.reached k (freed_is k is);
    reached_c = λ k is. none_in k _ is;
    apart_a = unshared_apart gone published turns.apart;
    apart_c = tt;
    comes_a = λ k is. elim (comes k is) [
      | inl here ↦ elim (turns.comes k here) [ inl left ↦ inl (left.0, not_freed k left.1) | inr none ↦ none_in k _ none ]
      | inr new ↦ inr new
    ];
    comes_c = λ k is.
        let there = unshared_some published after k is in
        elim (published_some published old k there) [
          | inl held ↦ inl (held, not_true (in_some freed k) (λ lost. freed_alone gone loses.each k lost there))
          | inr alone ↦ inr (alone, refl)
        ];
    stays_a = λ k is. elim (turns.stays k is) [
      | inl lost ↦ elim (published_some gone published k lost) [ inl there ↦ inr (shown k there) | inr free ↦ inl free ]
      | inr left ↦ inr (inl (stay k left))
    ];
    stays_c = λ k is. inr (shown k (unshared_some published old k is));
    written = written;
  }

-- Where the pages of the catalogue are published and stay, the pages that were only published are freed.
pub pages_listed : (old after published : List PageRef) (made : List Extent)
    → AreDisjoint (in_some (extents_of old)) (in_some (extents_of (unshared published old)))
    → AreApart (extents_of (unshared published old))
    → ((k : ℕ) → in_some (extents_of after) k ≡ true → (in_some (extents_of old) k ≡ true) ⊎ (in_some made k ≡ true))
    → IsSubset (in_some (extents_of old)) (in_some (extents_of after)) → IsSubset (in_some made) (in_some (extents_of after))
    → PagesTurn (extents_of old) (extents_of (unshared published old)) [] (extents_of (unshared published old))
    (extents_of after) (extents_of (unshared old after)) made
pages_listed old after published made beside apart comes stay written = record {
  reached_a = λ k is. none_in k _ is;
  reached_c = λ k is. is;
  apart_a = tt;
  apart_c = apart;
  comes_a = λ k is. elim (comes k is) [ inl here ↦ inl (here, refl) | inr new ↦ inr new ];
  comes_c = λ k is. inl (unshared_some old after k is, refl);
  stays_a = λ k is. inr (inl (stay k is));
  stays_c = λ k is. inl is;
  written = written;
}

-- The blocks that are removed from the old lists where names change: pages of the catalogue and of the history, and
-- bodies, which these replace. All of them are freed but the published pages.
pub record ChangesNames (d : Extent) (old : Contents) (made : List Extent) (c : Contents) (freed : List Extent) : Type 0 where
  pub pages : List PageRef
  pub changes : List PageRef
  pub gone : List Extent
  pub parts : freed ≡ joined d (extents_of (unshared pages (stored_refs old.published))) (extents_of changes) [] gone
  pub catalogue : LosesAll pages (stored_refs old.catalogue) (stored_refs c.catalogue)
  pub history : LosesAll changes (stored_refs old.history.pages) (stored_refs c.history.pages)
  pub bodies : PartTurns (bodies_in old) gone (bodies_in c) made
  pub apart : AreApart (bodies_in c)
  pub published : c.published ≡ old.published

-- The blocks that are removed from the old lists by a publication: no page of the catalogue, and the pages of the
-- history with a change that the publication drops.
pub record ListsAll (d : Extent) (old : Contents) (made : List Extent) (c : Contents) (freed : List Extent) : Type 0 where
  pub parts : freed ≡ joined d [] (extents_of (stored_refs (front_pages (changes_dropped old) old.history.pages))) (shown_in old) []
  pub catalogue : c.catalogue ≡ old.catalogue
  pub history : ReplacesFront (changes_dropped old) old.history.pages c.history.pages
  pub published : c.published ≡ old.catalogue
  pub none : made ≡ []

-- The blocks that a command with its bodies in these extents removes from the old lists, and the extents that it frees.
abbrev pub Frees : Extent → Contents → List Extent → Contents → List Extent → Type 0
Frees d old made c freed = ChangesNames d old made c freed ⊎ ListsAll d old made c freed

-- its bodies are apart, and every block of them is a block of an old body or of a new one
pub bodies_apart : (d : Extent) (old : Contents) (made : List Extent) (c : Contents) (freed : List Extent) → AreApart (bodies_in old) → Frees d old made c freed → AreApart (bodies_in c)
bodies_apart d old made c freed apart (inl changes) = changes.apart
bodies_apart d old made c freed apart (inr lists) =
    subst (λ (pages : List (Page Record)). AreApart (bodies_of (records_of pages))) (sym lists.catalogue) apart

pub bodies_come : (d : Extent) (old : Contents) (made : List Extent) (c : Contents) (freed : List Extent) → Frees d old made c freed
    → (b : ℕ) → in_some (bodies_in c) b ≡ true → (in_some (bodies_in old) b ≡ true) ⊎ (in_some made b ≡ true)
bodies_come d old made c freed (inl changes) b is = elim (changes.bodies.comes b is) [ inl left ↦ inl left.0 | inr new ↦ inr new ]
bodies_come d old made c freed (inr lists) b is =
    inl (subst (λ (pages : List (Page Record)). in_some (bodies_of (records_of pages)) b ≡ true) lists.catalogue is)

-- The parts that a plan gives back, and the other parts after it.
pub record GivesParts (d : Extent) (old : Contents) (made : List Extent) (p : Plan) (freed : List Extent) : Type 0 where
  pub ga : List Extent
  pub gb : List Extent
  pub gc : List Extent
  pub ge : List Extent
  pub parts : freed ≡ joined d ga gb gc ge
  pub pages : PagesTurn (pages_in old) (shown_in old) ga gc (pages_in (written p)) (shown_in (written p)) (given_pages p)
  pub changes : PartTurns (changes_in old) gb (changes_in (written p)) (given_changes p)
  pub bodies : PartTurns (bodies_in old) ge (bodies_in (written p)) made

-- pages that are placed have the same entries
pub placed_refs : {T : Type 0} (format : ItemFormat T) (used used' : List Bool) (xs ys : List (Page T)) → Places format used xs used' ys → stored_refs ys ≡ stored_refs xs
placed_refs {T} format used used' xs ys places =
    sym (refs_kept ys) ∙ (ap (λ (pages : List (Page T)). stored_refs pages) (places_stored format used used' xs ys places) ∙ refs_kept xs)

-- the kept pages are among those that are stored
kept_in : {T : Type 0} (format : ItemFormat T) (pages : List (Page T)) → IsSubset (in_some (extents_of (stored_refs pages))) (in_some (extents_of (stored_refs (stored format pages))))
kept_in format pages =
    some_of (extents_of (stored_refs pages)) (extents_of (stored_refs (stored format pages)))
    (mapped (λ ref. ref.extent) (stored_refs pages) (stored_refs (stored format pages)) (kept_refs format pages))

module _ (root : Root) (old c : Contents) (p : Plan) (was : AreSeparate root.directory (pages_in old) (changes_in old) (shown_in old) (bodies_in old))
    (refs_catalogue : stored_refs p.contents.catalogue ≡ stored_refs c.catalogue) (refs_history : stored_refs p.contents.history.pages ≡ stored_refs c.history.pages)
    (records : records_of (stored record_format p.contents.catalogue) ≡ records_of c.catalogue) (published : p.contents.published ≡ c.published)
    (made : List Extent) (freed : List Extent) where
  abbrev d : Extent
  d = root.directory

  abbrev after : List PageRef
  after = stored_refs (written p).catalogue

  -- pages of changes go
  changes_turn : (gone : List Extent) → PartTurns (changes_in old) gone (changes_in c) [] → PartTurns (changes_in old) gone (changes_in (written p)) (given_changes p)
  changes_turn gone turns =
      grown (changes_in old) gone (changes_in p.contents) (changes_in (written p)) (given_changes p)
      (subst (λ (refs : List PageRef). PartTurns (changes_in old) gone (extents_of refs) []) (sym refs_history) turns)
      (stored_some change_format p.contents.history.pages) (kept_in change_format p.contents.history.pages) (placed_some change_format p.contents.history.pages)

  -- bodies go
  bodies_turn : (gone : List Extent) → PartTurns (bodies_in old) gone (bodies_in c) made → PartTurns (bodies_in old) gone (bodies_in (written p)) made
  bodies_turn gone turns = subst (λ (rs : List Record). PartTurns (bodies_in old) gone (bodies_of rs) made) (sym records) turns

  changed : ChangesNames d old made c freed → GivesParts d old made p freed
  changed loses =
      let ga = extents_of (unshared loses.pages (stored_refs old.published)) in
      let kept : LosesAll loses.pages (stored_refs old.catalogue) (stored_refs p.contents.catalogue) =
      subst (LosesAll loses.pages (stored_refs old.catalogue)) (sym refs_catalogue) loses.catalogue in
      let shown : stored_refs p.contents.published ≡ stored_refs old.published =
      ap (λ (pages : List (Page Record)). stored_refs pages) (published ∙ loses.published) in
      record {
        ga = ga;
        gb = extents_of loses.changes;
        gc = [];
        ge = loses.gone;
        parts = loses.parts;
        pages = subst (λ (l : List PageRef). PagesTurn (pages_in old) (shown_in old) ga [] (pages_in (written p)) (extents_of (unshared l after)) (given_pages p)) (sym shown)
            (pages_turn loses.pages (stored_refs old.catalogue) (stored_refs p.contents.catalogue) after (stored_refs old.published) (given_pages p) kept was.in_a was.ac
            (stored_some record_format p.contents.catalogue) (kept_in record_format p.contents.catalogue) (placed_some record_format p.contents.catalogue));
        changes = changes_turn (extents_of loses.changes) (loses.history.turns was.in_b);
        bodies = bodies_turn loses.gone loses.bodies;
      }

  abbrev front : List Extent
  front = extents_of (stored_refs (front_pages (changes_dropped old) old.history.pages))

  listed : ListsAll d old made c freed → GivesParts d old made p freed
  listed all =
      let refs : stored_refs p.contents.catalogue ≡ stored_refs old.catalogue =
      refs_catalogue ∙ ap (λ (pages : List (Page Record)). stored_refs pages) all.catalogue in
      let shown : stored_refs p.contents.published ≡ stored_refs old.catalogue =
      ap (λ (pages : List (Page Record)). stored_refs pages) (published ∙ all.published) in
      let comes : (k : ℕ) → in_some (pages_in (written p)) k ≡ true → (in_some (pages_in old) k ≡ true) ⊎ (in_some (given_pages p) k ≡ true) =
      subst (λ (l : List PageRef). (k : ℕ) → in_some (pages_in (written p)) k ≡ true → (in_some (extents_of l) k ≡ true) ⊎ (in_some (given_pages p) k ≡ true)) refs
      (stored_some record_format p.contents.catalogue) in
      let stay : IsSubset (in_some (pages_in old)) (in_some (pages_in (written p))) =
      subst (λ (l : List PageRef). IsSubset (in_some (extents_of l)) (in_some (pages_in (written p)))) refs (kept_in record_format p.contents.catalogue) in
      let same : bodies_in c ≡ bodies_in old = ap (λ (pages : List (Page Record)). bodies_of (records_of pages)) all.catalogue in
      let by : Replaces (bodies_in old) (bodies_in c) [] [] = record { front = []; back = bodies_in old; was = refl; is = same } in
      record {
        ga = [];
        gb = front;
        gc = shown_in old;
        ge = [];
        parts = all.parts;
        pages = subst (λ (l : List PageRef). PagesTurn (pages_in old) (shown_in old) [] (shown_in old) (pages_in (written p)) (extents_of (unshared l after)) (given_pages p)) (sym shown)
            (pages_listed (stored_refs old.catalogue) after (stored_refs old.published) (given_pages p) was.ac was.in_c comes stay (placed_some record_format p.contents.catalogue));
        changes = changes_turn front
            (replaced (changes_in old) (changes_in c) front [] (front_replaced (changes_dropped old) old.history.pages c.history.pages all.history) was.in_b);
        bodies = bodies_turn [] (subst (PartTurns (bodies_in old) [] (bodies_in c)) (sym all.none) (replaced (bodies_in old) (bodies_in c) [] [] by was.in_e));
      }

  -- the extents that a command gives back
  pub gives_parts : Frees d old made c freed → GivesParts d old made p freed
  gives_parts (inl changes) = changed changes
  gives_parts (inr lists) = listed lists

-- So a plan takes its places, and gives back the blocks that the next root no longer reaches.
pub takes_and_gives : (size : ℕ) (root : Root) (old : Contents) (p : Plan) (freed : List Extent)
    → AreSeparate root.directory (pages_in old) (changes_in old) (shown_in old) (bodies_in old) → ((k : ℕ) → in_some (reach root old) k ≡ true → 2 ≤ k)
    → GivesParts root.directory old p.bodies.items p freed → p.taken.items ≡ places p → p.freed.items ≡ freed → TakesAndGives (rooted size root old) p
takes_and_gives size root old p freed was high gives taken is =
    let parts : p.freed.items ≡ joined root.directory gives.ga gives.gb gives.gc gives.ge = is ∙ gives.parts in
    record {
      taken = taken;
      apart = subst AreApart (sym parts)
          (freed_apart root.directory p.directory p.bodies.items (pages_in old) (changes_in old) (shown_in old) (bodies_in old) gives.ga gives.gb gives.gc gives.ge
          (pages_in (written p)) (changes_in (written p)) (shown_in (written p)) (bodies_in (written p)) (given_pages p) (given_changes p) was gives.pages gives.changes gives.bodies);
      reached = λ b here. freed_reached root.directory p.directory p.bodies.items (pages_in old) (changes_in old) (shown_in old) (bodies_in old) gives.ga gives.gb gives.gc gives.ge
          (pages_in (written p)) (changes_in (written p)) (shown_in (written p)) (bodies_in (written p)) (given_pages p) (given_changes p) was gives.pages gives.changes gives.bodies
          b (subst (λ (l : List Extent). in_some l b ≡ true) parts here);
      next = λ b. subst (λ (l : List Extent). (nat_lt b 2 || in_some (joined p.directory (pages_in (written p)) (changes_in (written p)) (shown_in (written p)) (bodies_in (written p))) b)
          ≡ (((nat_lt b 2 || in_some (reach root old) b) && not (in_some l b)) || in_some (places p) b)) (sym parts)
          (next_reaches root.directory p.directory p.bodies.items (pages_in old) (changes_in old) (shown_in old) (bodies_in old) gives.ga gives.gb gives.gc gives.ge
          (pages_in (written p)) (changes_in (written p)) (shown_in (written p)) (bodies_in (written p)) (given_pages p) (given_changes p) was gives.pages gives.changes gives.bodies
          high b);
    }

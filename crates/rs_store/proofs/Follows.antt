-- Once a whole plan is written, the next root determines the next state.
use Rattle.std.proofs.Common.{true≢false, ◌≡◌, ◌⊎◌, inl, inr, ⊎_elim, ℕ, Bool, true, false, List, [], ◌∷◌, ◌++◌, map, filter, length, refl, sym, ◌∙◌, ap, ap₂, subst, Option, Some, None}
use Rattle.std.specs.Prelude.{All, IfSome, is_some}
use Rattle.std.proofs.lemmas.List.Elements.{All-nil, All-cons, All-head, All-tail, All-filter}
use Rattle.rs_commit.specs.declared.root.Root.{Root}
use Rattle.rs_record.specs.declared.record.Record.{Record}
use Rattle.rs_record.specs.declared.change.Change.{Change}
use Rattle.rs_model.specs.State.{Source}
use Rattle.rs_model.specs.Step.{next_state}
use Rattle.rs_model.specs.declared.command.Command.{Command}
use Rattle.rs_page.specs.declared.place.PageRef.{PageRef}
use Rattle.rs_page.specs.Format.{ItemFormat}
use Rattle.rs_page.specs.Items.{record_format, change_format}
use Rattle.rs_page.specs.Pages.{Page, stored_ref, stored_refs, stored, items_of}
use Rattle.rs_page.specs.DiskPages.{IsPage, Stands}
use Rattle.rs_page.specs.SharedPages.{IsSublist, stored_pages, KeepsPages}
use Rattle.rs_store.proofs.FromBelow.{written_stand, pages_stand, held_catalogue, held_history, IsPublished, published_is}
use Rattle.rs_catalogue.specs.Catalogue.{HoldsCatalogue}
use Rattle.rs_image.specs.declared.contents.Contents.{Contents}
use Rattle.rs_image.specs.Rooted.{rooted}
use Rattle.rs_image.specs.Whole.{IsWhole}
use Rattle.rs_image.specs.StateOfImage.{Tells, state_in, held_in, AreLists}
use Rattle.rs_plan.specs.declared.plan.Plan.{Plan}
use Rattle.rs_plan.specs.Room.{bodies_of_command}
use Rattle.rs_plan.specs.Plans.{AreBodies, lists_after, once_stored, planned_root, IsPlanned, AreWritten}

-- A property of all elements of a list holds for all of its sublists, ..
all_sub : {A : Type 0} (P : A → Type 0) (xs ys : List A) → All P ys → IsSublist xs ys → All P xs
all_sub P [] ys all sub = All-nil P
all_sub P (x ∷ xs) [] all sub = absurd sub
all_sub P (x ∷ xs) (y ∷ ys) all (inl (same, rest)) =
    All-cons P x xs (subst P (sym same) (All-head P y ys all)) (all_sub P xs ys (All-tail P y ys all) rest)
all_sub P (x ∷ xs) (y ∷ ys) all (inr rest) = all_sub P (x ∷ xs) ys (All-tail P y ys all) rest

-- .. and a property of all elements that pass a test and of all that fail it holds for the whole list.
true_or_false : (b : Bool) → (b ≡ true) ⊎ (b ≡ false)
true_or_false true = inl refl
true_or_false false = inr refl

passed : {A : Type 0} (q : A → Bool) (x : A) (xs : List A) → q x ≡ true → filter q (x ∷ xs) ≡ x ∷ filter q xs
passed q x xs is = rw is

left_out : {A : Type 0} (q : A → Bool) (x : A) (xs : List A) → q x ≡ false → filter q (x ∷ xs) ≡ filter q xs
left_out q x xs is = rw is

all_from : {A : Type 0} (P : A → Type 0) (q : A → Bool) → ((x : A) → q x ≡ false → P x) → (xs : List A) → All P (filter q xs) → All P xs
all_from P q others [] all = All-nil P
all_from {A} P q others (x ∷ xs) all = ⊎_elim
    (λ is. let same : All P (x ∷ filter q xs) = subst (λ (l : List A). All P l) (passed q x xs is) all in
    All-cons P x xs (All-head P x (filter q xs) same) (all_from P q others xs (All-tail P x (filter q xs) same)))
    (λ is. let same : All P (filter q xs) = subst (λ (l : List A). All P l) (left_out q x xs is) all in
    All-cons P x xs (others x is) (all_from P q others xs same))
    (true_or_false (q x))

nothing : {A : Type 0} (P : A → Type 0) (o : Option A) → is_some o ≡ false → IfSome o P
nothing P None is = tt
nothing P (Some x) is = absurd (true≢false is)

-- Kept pages are where the old ones are.
kept_stand : {T : Type 0} (format : ItemFormat T) (old new : List (Page T)) (image : List ℕ) → KeepsPages old new
    → All (Stands format image) old → All (Stands format image) new
kept_stand {T} format old new image kept stand =
    all_from (Stands format image) (λ page. is_some (stored_ref page.place))
    (λ page is. nothing (λ (ref : PageRef). IsPage format ref image page.items) (stored_ref page.place) is) new
    (all_sub (Stands format image) (stored_pages new) (stored_pages old)
    (All-filter (λ page. is_some (stored_ref page.place)) (Stands format image) old stand) kept)

-- Once they are stored, pages have the same items.
items_stored : {T : Type 0} (format : ItemFormat T) (pages : List (Page T)) → items_of (stored format pages) ≡ items_of pages
items_stored format [] = refl
items_stored format (page ∷ pages) = ap (λ items. page.items ++ items) (items_stored format pages)

once_state : (image : List ℕ) (c : Contents) → state_in image (once_stored c) ≡ state_in image c
once_state image c =
    ap₂ (λ (records : List Record) (changes : List Change). record (state_in image c) { held = map (held_in image) records; changes = changes })
    (items_stored record_format c.catalogue) (items_stored change_format c.history.pages)

-- The disk holds the lists: the kept pages and the written ones.
abbrev HoldsPagesInMemory : List (Page Record) → List ℕ → Type 0
HoldsPagesInMemory pages image = HoldsCatalogue (stored_refs pages) image (map (λ page. page.items) pages)

held_published : (old c : Contents) (image : List ℕ) → IsPublished old c → HoldsPagesInMemory old.catalogue image → HoldsPagesInMemory old.published image
    → HoldsPagesInMemory c.published image
held_published old c image (inl same) catalogue published = subst (λ (l : List (Page Record)). HoldsPagesInMemory l image) (sym same) published
held_published old c image (inr listed) catalogue published = subst (λ (l : List (Page Record)). HoldsPagesInMemory l image) (sym listed.0) catalogue

-- The state of the lists is the next one, if the bodies are in their extents.
pub state_follows : (size : ℕ) (root : Root) (old : Contents) (command : Command) (moment : ℕ) (p : Plan) (bodies : List (List ℕ)) (image : List ℕ)
    → IsPlanned (rooted size root old) command moment p → bodies_of_command command ≡ bodies → AreWritten p bodies image
    → state_in image (once_stored p.contents) ≡ next_state (state_in image old) command moment
state_follows size root old command moment p bodies image planned are there =
    let stand : AreBodies image p.bodies.items (bodies_of_command command) =
    subst (λ (l : List (List ℕ)). AreBodies image p.bodies.items l) (sym are) there.bodies in
    once_state image p.contents ∙ planned.next.turns image stand

pub tells_next : (size : ℕ) (root : Root) (old : Contents) (command : Command) (moment : ℕ) (p : Plan) (bodies : List (List ℕ)) (image : List ℕ) (s : Source)
    → IsPlanned (rooted size root old) command moment p → bodies_of_command command ≡ bodies → AreWritten p bodies image → AreLists (once_stored p.contents)
    → length image ≡ size → Tells root old image s
    → Tells (planned_root root p) (once_stored p.contents) image (next_state s command moment)
tells_next size root old command moment p bodies image s planned are there lists long told =
    let c = p.contents in
    let records : All (Stands record_format image) old.catalogue = pages_stand record_format old.catalogue image told.whole.catalogue told.catalogue.hold in
    let changes : All (Stands change_format image) old.history.pages = pages_stand change_format old.history.pages image told.whole.history told.history.hold in
    record {
      listable = planned.listable;
      directory = there.directory;
      digest = refl;
      catalogue = held_catalogue (stored record_format c.catalogue) image lists.catalogue planned.whole.catalogue
          (written_stand record_format c.catalogue image (kept_stand record_format old.catalogue c.catalogue image planned.next.catalogue records) there.catalogue);
      history = held_history (stored change_format c.history.pages) image lists.history planned.whole.history
          (written_stand change_format c.history.pages image (kept_stand change_format old.history.pages c.history.pages image planned.next.history changes) there.history);
      published = subst (λ (l : List (Page Record)). HoldsPagesInMemory l image) (sym planned.in_turn.placed.lists.published)
          (held_published old (lists_after old command moment p.bodies.items) image (published_is old command moment p.bodies.items) told.catalogue told.published);
      whole = subst (λ (n : ℕ). IsWhole n (planned_root root p) (once_stored c)) (sym long) planned.whole;
      state = state_follows size root old command moment p bodies image planned are there ∙ ap (λ (t : Source). next_state t command moment) told.state;
    }

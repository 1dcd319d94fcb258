-- An image holds at most one set of lists of a root, and at most one state.
use Rattle.std.proofs.Common.{◌≡◌, ℕ, List, [], ◌∷◌, refl, sym, ◌∙◌, ap, subst}
use Rattle.std.specs.Prelude.{All, IsSome}
use Rattle.std.specs.List.{cons_option}
use Rattle.std.proofs.lemmas.List.Elements.{All-head, All-tail}
use Rattle.rs_commit.specs.declared.root.Root.{Root}
use Rattle.rs_image.proofs.FromBelow.{opens_once, pages_hold_once, one_directory, records_apart, changes_apart}
use Rattle.rs_page.specs.declared.place.PageRef.{PageRef}
use Rattle.rs_page.specs.declared.place.Place.{Place}
use Rattle.rs_page.specs.declared.place.Place.TheVariants.{Touched, Placed, Stored}
use Rattle.rs_page.specs.Items.{record_format, change_format}
use Rattle.rs_page.specs.Pages.{Page, IsStored, stored_ref, stored_refs}
use Rattle.rs_pages.specs.Storing.{items_by_page}
use Rattle.rs_catalogue.specs.Catalogue.{HoldsCatalogue}
use Rattle.rs_catalogue.specs.Laws.{CatalogueHeldOnce}
use Rattle.rs_changes.specs.History.{HoldsHistory}
use Rattle.rs_changes.specs.Laws.{HistoryHeldOnce}
use Rattle.rs_directory.specs.declared.header.Header.{Header}
use Rattle.rs_directory.specs.Directory.{AreLawful}
use Rattle.rs_image.specs.declared.contents.Contents.{Contents}
use Rattle.rs_image.specs.StateOfImage.{AreListable, state_in, Tells}
use Rattle.rs_image.specs.Laws.{StandsOnce, TellsOnce}

-- pages of records, and of changes
pub catalogue_held_once : CatalogueHeldOnce
catalogue_held_once refs image a b first second = pages_hold_once record_format records_apart refs image a b first.hold second.hold

pub history_held_once : HistoryHeldOnce
history_held_once refs image a b first second = pages_hold_once change_format changes_apart refs image a b first.hold second.hold

-- the place of a page, and the references to the pages after it
one_place : (a b : Place) (more others : List PageRef) → IsSome (stored_ref a) → IsSome (stored_ref b)
    → cons_option (stored_ref a) more ≡ cons_option (stored_ref b) others → (a ≡ b) × (more ≡ others)
one_place Touched b more others is_a is_b same = absurd cc
one_place (Placed extent) b more others is_a is_b same = absurd cc
one_place (Stored ref) Touched more others is_a is_b same = absurd cc
one_place (Stored ref) (Placed extent) more others is_a is_b same = absurd cc
one_place (Stored ref) (Stored other) more others is_a is_b same =
    let refs : ref ≡ other = cc in
    let rests : more ≡ others = cc in
    (ap Stored refs, rests)

-- The references to stored pages, and the items of every page, determine the pages.
pub pages_once : {T : Type 0} (a b : List (Page T)) → All IsStored a → All IsStored b → stored_refs a ≡ stored_refs b
    → items_by_page a ≡ items_by_page b → a ≡ b
pages_once [] [] of_a of_b refs items = refl
pages_once [] (page ∷ b) of_a of_b refs items = absurd cc
pages_once (page ∷ a) [] of_a of_b refs items = absurd cc
pages_once (x ∷ a) (y ∷ b) of_a of_b refs items =
    let place = one_place x.place y.place (stored_refs a) (stored_refs b) (All-head IsStored x a of_a) (All-head IsStored y b of_b) refs in
    let here : x.items ≡ y.items = cc in
    let there : items_by_page a ≡ items_by_page b = cc in
    let rest : a ≡ b = pages_once a b (All-tail IsStored x a of_a) (All-tail IsStored y b of_b) place.1 there in
    λ i. record { items = here i; place = place.0 i } ∷ rest i

-- the lists of a catalogue, and of a history, by the references to their pages
lists_once : {T : Type 0} (Holds : List PageRef → List ℕ → List (List T) → Type 0)
    → ((refs : List PageRef) (image : List ℕ) (a b : List (List T)) → Holds refs image a → Holds refs image b → a ≡ b)
    → (a b : List (Page T)) (image : List ℕ) → All IsStored a → All IsStored b → stored_refs a ≡ stored_refs b
    → Holds (stored_refs a) image (items_by_page a) → Holds (stored_refs b) image (items_by_page b) → a ≡ b
lists_once Holds once a b image of_a of_b refs holds_a holds_b =
    pages_once a b of_a of_b refs
    (once (stored_refs b) image (items_by_page a) (items_by_page b) (subst (λ (of : List PageRef). Holds of image (items_by_page a)) refs holds_a) holds_b)

-- listable lists are lawful in a directory
pub listable_lawful : (version : ℕ) (c : Contents) → AreListable version c → AreLawful version c.header (stored_refs c.catalogue) (stored_refs c.history.pages) (stored_refs c.published)
listable_lawful version c listable = record { of_header = listable.header; of_catalogue = listable.catalogue; of_changes = listable.history; of_published = listable.published }

-- A root describes at most one set of lists in an image.
pub tells_once : TellsOnce
tells_once root c d image s t one two =
    let same = one_directory root.version c.header d.header (stored_refs c.catalogue) (stored_refs d.catalogue) (stored_refs c.history.pages) (stored_refs d.history.pages)
    (stored_refs c.published) (stored_refs d.published) (listable_lawful root.version c one.listable) (listable_lawful root.version d two.listable) (sym one.directory ∙ two.directory) in
    let catalogue : c.catalogue ≡ d.catalogue =
    lists_once HoldsCatalogue catalogue_held_once c.catalogue d.catalogue image one.whole.catalogue two.whole.catalogue same.1 one.catalogue two.catalogue in
    let pages : c.history.pages ≡ d.history.pages =
    lists_once HoldsHistory history_held_once c.history.pages d.history.pages image one.whole.history two.whole.history same.2 one.history two.history in
    let first : c.history.first ≡ d.history.first = one.whole.number ∙ ap (λ (h : Header). h.first) same.0 ∙ sym two.whole.number in
    let published : c.published ≡ d.published =
    lists_once HoldsCatalogue catalogue_held_once c.published d.published image one.whole.published two.whole.published same.3 one.published two.published in
    λ i. record { header = same.0 i; catalogue = catalogue i; history = record { first = first i; pages = pages i }; published = published i }

-- An image holds at most one state.
pub stands_once : StandsOnce
stands_once image s t (root, opens, (c, one)) (other, opens_too, (d, two)) =
    let roots : root ≡ other = opens_once image root other opens opens_too in
    let told : Tells other c image s = subst (λ (r : Root). Tells r c image s) roots one in
    let lists : c ≡ d = tells_once other c d image s t told two in
    sym one.state ∙ ap (state_in image) lists ∙ two.state

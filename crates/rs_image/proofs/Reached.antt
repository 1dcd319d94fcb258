-- The extents that a root reaches, taken from the bodies on: they are a directory, catalogue pages, change pages,
-- published pages and bodies.
use Rattle.std.proofs.Common.{◌≡◌, ℕ, ◌+◌, ◌<◌, Bool, true, false, List, [], ◌∷◌, ◌++◌, length, take, get_or, append-nil, sym, ◌∙◌, ap, subst}
use Rattle.std.specs.Prelude.{cond, not}
use Rattle.std.specs.List.{list_any}
use Rattle.std.proofs.lemmas.List.{map-append}
use Rattle.std.proofs.lemmas.List.Elements.{filter_more}
use Rattle.rs_extent.specs.declared.Extent.{Extent}
use Rattle.rs_page.specs.declared.place.PageRef.{PageRef}
use Rattle.rs_extent.specs.Extents.{AreTaken, CanTake}
use Rattle.rs_image.proofs.FromBelow.{taken_before, can_behind, can_front}
use Rattle.rs_commit.specs.declared.root.Root.{Root}
use Rattle.rs_page.specs.Pages.{same_page, extents_of, stored_refs}
use Rattle.rs_pages.specs.Storing.{unshared}
use Rattle.rs_catalogue.specs.Catalogue.{records_of}
use Rattle.rs_image.specs.declared.contents.Contents.{Contents}
use Rattle.rs_image.specs.Reach.{bodies_of, reach}

-- the extents that a root reaches, by its pages and bodies
reach_by : (directory : Extent) (catalogue history published pages : List PageRef) (bodies : List Extent) → pages ≡ catalogue ++ history ++ published
    → directory ∷ extents_of pages ++ bodies ≡ directory ∷ extents_of catalogue ++ extents_of history ++ extents_of published ++ bodies
reach_by directory catalogue history published pages bodies are =
    let pages_are : extents_of pages ≡ extents_of (catalogue ++ history ++ published) = ap extents_of are in
    let front : extents_of (catalogue ++ history) ≡ extents_of catalogue ++ extents_of history = map-append (λ ref. ref.extent) catalogue history in
    let all : extents_of (catalogue ++ history ++ published) ≡ extents_of (catalogue ++ history) ++ extents_of published =
    map-append (λ ref. ref.extent) (catalogue ++ history) published in
    ap (λ (l : List Extent). directory ∷ l ++ bodies) (pages_are ∙ all ∙ ap (λ (l : List Extent). l ++ extents_of published) front)

-- one more published page counts where it is no catalogue page
pub unshared_more : (published catalogue : List PageRef) (i : ℕ) (d : PageRef) (shared : Bool) → i < length published
    → shared ≡ list_any (same_page (get_or published i d)) catalogue
    → unshared (take (i + 1) published) catalogue ≡ unshared (take i published) catalogue ++ cond (not shared) (get_or published i d ∷ []) []
unshared_more published catalogue i d shared lt is =
    filter_more (λ ref. not (list_any (same_page ref) catalogue)) published i d lt
    ∙ ap (λ (b : Bool). unshared (take i published) catalogue ++ cond (not b) (get_or published i d ∷ []) []) (sym is)

-- a page is pushed where it is not shared ..
pub one_pushed : (new old before after : List PageRef) (ref : PageRef) (shared : Bool) → new ≡ old ++ ref ∷ [] → old ≡ before → shared ≡ false
    → after ≡ before ++ cond (not shared) (ref ∷ []) [] → new ≡ after
one_pushed new old before after ref true pushed was is more = absurd cc
one_pushed new old before after ref false pushed was is more = pushed ∙ ap (λ (l : List PageRef). l ++ ref ∷ []) was ∙ sym more

-- .. and not where it is shared
pub none_pushed : (old before after : List PageRef) (ref : PageRef) (shared : Bool) → old ≡ before → shared ≡ true
    → after ≡ before ++ cond (not shared) (ref ∷ []) [] → old ≡ after
none_pushed old before after ref true was is more = was ∙ sym (append-nil before) ∙ sym more
none_pushed old before after ref false was is more = absurd cc

-- The extents that a root reaches, taken from its bodies to its pages and to its directory.
module _ (root : Root) (c : Contents) (pages : List PageRef)
    (are : pages ≡ stored_refs c.catalogue ++ stored_refs c.history.pages ++ unshared (stored_refs c.published) (stored_refs c.catalogue)) (old : List Bool) where
  abbrev bodies : List Extent
  bodies = bodies_of (records_of c.catalogue)

  reached : root.directory ∷ extents_of pages ++ bodies ≡ reach root c
  reached = reach_by root.directory (stored_refs c.catalogue) (stored_refs c.history.pages) (unshared (stored_refs c.published) (stored_refs c.catalogue)) pages bodies are

  pub can_bodies : CanTake old (reach root c) → CanTake old bodies
  can_bodies can = can_behind old (root.directory ∷ extents_of pages) bodies (subst (CanTake old) (sym reached) can)

  module _ (mid : List Bool) (taken : AreTaken old mid bodies) where
    pub can_pages : CanTake old (reach root c) → CanTake mid (extents_of pages)
    can_pages can = can_front old mid (extents_of pages) bodies taken (can_behind old (root.directory ∷ []) (extents_of pages ++ bodies) (subst (CanTake old) (sym reached) can))

    pub can_directory : (late : List Bool) → AreTaken mid late (extents_of pages) → CanTake old (reach root c) → CanTake late (root.directory ∷ [])
    can_directory late then can =
        can_front old late (root.directory ∷ []) (extents_of pages ++ bodies) (taken_before old mid late (extents_of pages) bodies taken then) (subst (CanTake old) (sym reached) can)

    pub taken_all : (late new : List Bool) → AreTaken mid late (extents_of pages) → AreTaken late new (root.directory ∷ []) → AreTaken old new (reach root c)
    taken_all late new then last =
        subst (AreTaken old new) reached
        (taken_before old late new (root.directory ∷ []) (extents_of pages ++ bodies) (taken_before old mid late (extents_of pages) bodies taken then) last)

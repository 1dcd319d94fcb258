-- The parts of the blocks that a root reaches, and facts about the pages after a command.
use Rattle.std.proofs.Common.{true≢false, refl, ◌+◌, ◌≡◌, ◌⊎◌, inl, inr, ℕ, true, List, [], ◌∷◌, length, sym, ◌∙◌, ap, subst}
use Rattle.std.specs.Prelude.{Bool}
use Rattle.std.specs.List.{AllZip}
use Rattle.rs_extent.specs.declared.Extent.{Extent}
use Rattle.rs_extent.specs.Extents.{in_some, AreApart, AreDisjoint, IsSubset}
use Rattle.rs_body.specs.Blocks.{blocks_of, IsSized}
use Rattle.rs_page.specs.declared.place.PageRef.{PageRef}
use Rattle.rs_page.specs.Pages.{placed_extents, stored_refs, extents_of}
use Rattle.rs_catalogue.specs.Catalogue.{records_of}
use Rattle.rs_model.specs.declared.command.Command.{Command}
use Rattle.rs_model.specs.declared.command.Command.TheVariants.{Put, Delete, Publish, Group}
use Rattle.rs_image.specs.declared.contents.Contents.{Contents}
use Rattle.rs_pages.specs.Storing.{unshared}
use Rattle.rs_image.specs.Reach.{bodies_of}
use Rattle.rs_plan.specs.declared.plan.Plan.{Plan}
use Rattle.rs_plan.specs.Room.{TakesEach, bodies_needed}
use Rattle.rs_plan.specs.Turned.{extent_for, extents_left, lists_after_item, lists_after_items}
use Rattle.rs_model.specs.declared.command.Item.{Item}
use Rattle.rs_plan.specs.Plans.{lists_after, once_stored, places}
use Rattle.rs_plan.proofs.Separate.{body_new, pa_new, pb_new, d_new}

-- the blocks of the catalogue pages, of the change pages, of the published pages that are not shared, and of the bodies
abbrev pub pages_in : Contents → List Extent
pages_in c = extents_of (stored_refs c.catalogue)

abbrev pub changes_in : Contents → List Extent
changes_in c = extents_of (stored_refs c.history.pages)

abbrev pub shown_in : Contents → List Extent
shown_in c = extents_of (unshared (stored_refs c.published) (stored_refs c.catalogue))

abbrev pub bodies_in : Contents → List Extent
bodies_in c = bodies_of (records_of c.catalogue)

-- the lists of a plan once they are written, and the blocks that its pages were given
abbrev pub written : Plan → Contents
written p = once_stored p.contents

abbrev pub given_pages : Plan → List Extent
given_pages p = placed_extents p.contents.catalogue

abbrev pub given_changes : Plan → List Extent
given_changes p = placed_extents p.contents.history.pages

-- The parts of the blocks that a plan writes.
pub in_bodies : (p : Plan) → IsSubset (in_some p.bodies.items) (in_some (places p))
in_bodies p = body_new p.bodies.items (given_pages p) (given_changes p) p.directory

pub in_catalogue : (p : Plan) → IsSubset (in_some (given_pages p)) (in_some (places p))
in_catalogue p = pa_new p.bodies.items (given_pages p) (given_changes p) p.directory

pub in_history : (p : Plan) → IsSubset (in_some (given_changes p)) (in_some (places p))
in_history p = pb_new p.bodies.items (given_pages p) (given_changes p) p.directory

pub in_directory : (p : Plan) → IsSubset (in_some (p.directory ∷ [])) (in_some (places p))
in_directory p = d_new p.bodies.items (given_pages p) (given_changes p) p.directory

-- every body has its blocks
pub sized_each : (bodies : List (List ℕ)) (used after : List Bool) (extents : List Extent) → TakesEach used (bodies_needed bodies) extents after
    → AllZip (λ extent bytes. IsSized extent (length bytes)) extents bodies
sized_each [] used after [] takes = tt
sized_each [] used after (e ∷ extents) takes = absurd takes
sized_each (bytes ∷ bodies) used after [] takes = absurd takes
sized_each (bytes ∷ bodies) used after (e ∷ extents) takes = (
  (takes.1.blocks, λ none. takes.1.nowhere (ap blocks_of none)),
  sized_each bodies takes.0 after extents takes.2,
)

-- The published pages after a command, which does not write to them.
pub record IsUnshared (before kept after published : List PageRef) (old : List Extent) : Type 0 where
  pub comes : (b : ℕ) → in_some (extents_of (unshared published after)) b ≡ true → (in_some (extents_of before) b ≡ true) ⊎ (in_some old b ≡ true)
  pub beside : AreDisjoint (in_some (extents_of kept)) (in_some (extents_of (unshared published after)))
  pub apart : AreApart (extents_of (unshared published after))

pub unshared_none : (before kept after published : List PageRef) (old : List Extent) → unshared published after ≡ [] → IsUnshared before kept after published old
unshared_none before kept after published old none = record {
  comes = λ b is. absurd (true≢false (sym is ∙ ap (λ (l : List PageRef). in_some (extents_of l) b) none));
  beside = λ b is. ap (λ (l : List PageRef). in_some (extents_of l) b) none;
  apart = subst (λ (l : List PageRef). AreApart (extents_of l)) (sym none) tt;
}

-- the published pages are those of before, or all those of the catalogue
abbrev pub IsPublished : Contents → Contents → Type 0
IsPublished old c = (c.published ≡ old.published) ⊎ ((c.published ≡ old.catalogue) × (c.catalogue ≡ old.catalogue))

-- all items together keep every property that one item keeps
pub after_each : (P : Contents → Type 0) → ((c : Contents) (item : Item) (moment : ℕ) (body : Extent) → P c → P (lists_after_item c item moment body))
    → (items : List Item) (c : Contents) (moment : ℕ) (bodies : List Extent) → P c → P (lists_after_items c items moment bodies)
after_each P keeps [] c moment bodies h = h
after_each P keeps (item ∷ items) c moment bodies h =
    let body = extent_for item items bodies in
    after_each P keeps items (lists_after_item c item moment body) (moment + 1) (extents_left item items bodies) (keeps c item moment body h)

pub published_after : (items : List Item) (c : Contents) (moment : ℕ) (bodies : List Extent) → (lists_after_items c items moment bodies).published ≡ c.published
published_after items c moment bodies = after_each (λ x. x.published ≡ c.published) (λ x item at body same. same) items c moment bodies refl

pub published_is : (old : Contents) (command : Command) (moment : ℕ) (bodies : List Extent) → IsPublished old (lists_after old command moment bodies)
published_is old (Put name kind bytes) moment bodies = inl refl
published_is old (Delete name) moment bodies = inl refl
published_is old Publish moment bodies = inr (refl, refl)
published_is old (Group items) moment bodies = inl (published_after items old moment bodies)

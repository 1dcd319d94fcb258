-- The blocks that a root reaches: those of all parts of its lists.
use Rattle.std.proofs.Common.{◌≡◌, ◌⊎◌, inl, inr, ⊎_elim, ℕ, Bool, true, false, List, [], ◌∷◌, ◌++◌, refl, arith}
use Rattle.std.specs.Prelude.{nat_eq, not, bytes_eq, cond, ◌&&◌}
use Rattle.std.specs.List.{list_any}
use Rattle.std.proofs.lemmas.Bool.{and_parts, or_cases}
use Rattle.std.proofs.lemmas.Bool.Decides.{nat_tests}
use Rattle.rs_image.proofs.FromBelow.{some_front, some_behind, within_true, within_is, some_first, some_rest, some_split}
use Rattle.rs_extent.specs.declared.Extent.{Extent}
use Rattle.rs_extent.specs.Extents.{within, in_some}
use Rattle.rs_commit.specs.declared.root.Root.{Root}
use Rattle.rs_page.specs.declared.place.PageRef.{PageRef}
use Rattle.rs_page.specs.Pages.{same_page, stored_refs, extents_of}
use Rattle.rs_catalogue.specs.Catalogue.{records_of}
use Rattle.rs_image.specs.declared.contents.Contents.{Contents}
use Rattle.rs_pages.specs.Storing.{unshared}
use Rattle.rs_image.specs.Reach.{bodies_of, reach}

same_number : (m n : ℕ) → nat_eq m n ≡ true → m ≡ n
same_number m n is = grind (arith, nat_tests)

-- entries that are equal have the same blocks
pub same_blocks : (a b : PageRef) (k : ℕ) → same_page a b ≡ true → within a.extent k ≡ true → within b.extent k ≡ true
same_blocks a b k same is =
    let most = and_parts
    (nat_eq a.extent.first b.extent.first && nat_eq a.extent.blocks b.extent.blocks && nat_eq a.length b.length) (bytes_eq a.sha256 b.sha256) same in
    let numbers = and_parts (nat_eq a.extent.first b.extent.first && nat_eq a.extent.blocks b.extent.blocks) (nat_eq a.length b.length) most.0 in
    let both = and_parts (nat_eq a.extent.first b.extent.first) (nat_eq a.extent.blocks b.extent.blocks) numbers.0 in
    let first : a.extent.first ≡ b.extent.first = same_number a.extent.first b.extent.first both.0 in
    let blocks : a.extent.blocks ≡ b.extent.blocks = same_number a.extent.blocks b.extent.blocks both.1 in
    let here = within_is a.extent k is in
    within_true b.extent k (omega (arith, here.0)) (omega (arith, here.1))

-- the blocks of a page that is also a catalogue page are blocks of the catalogue's pages
pub shared_blocks : (ref : PageRef) (catalogue : List PageRef) (b : ℕ) → list_any (same_page ref) catalogue ≡ true → within ref.extent b ≡ true
    → in_some (extents_of catalogue) b ≡ true
shared_blocks ref [] b found is = absurd cc
shared_blocks ref (other ∷ refs) b found is = ⊎_elim
    (λ same. some_first other.extent (extents_of refs) b (same_blocks ref other b same is))
    (λ later. some_rest other.extent (extents_of refs) b (shared_blocks ref refs b later is))
    (or_cases (same_page ref other) (list_any (same_page ref) refs) found)

-- one published page before others: it is also a catalogue page, or is not
one_published : (ref : PageRef) (others catalogue : List PageRef) (b : ℕ) (shared : Bool) → list_any (same_page ref) catalogue ≡ shared
    → (within ref.extent b ≡ true) ⊎ ((in_some (extents_of others) b ≡ true) ⊎ (in_some (extents_of catalogue) b ≡ true))
    → (in_some (extents_of (cond (not shared) (ref ∷ others) others)) b ≡ true) ⊎ (in_some (extents_of catalogue) b ≡ true)
one_published ref others catalogue b true found (inl here) = inr (shared_blocks ref catalogue b found here)
one_published ref others catalogue b true found (inr there) = there
one_published ref others catalogue b false found (inl here) = inl (some_first ref.extent (extents_of others) b here)
one_published ref others catalogue b false found (inr (inl left)) = inl (some_rest ref.extent (extents_of others) b left)
one_published ref others catalogue b false found (inr (inr right)) = inr right

-- a block of the published pages is one of pages that are no catalogue pages, or one of the catalogue's
pub published_either : (published catalogue : List PageRef) (b : ℕ) → in_some (extents_of published) b ≡ true
    → (in_some (extents_of (unshared published catalogue)) b ≡ true) ⊎ (in_some (extents_of catalogue) b ≡ true)
published_either [] catalogue b is = absurd cc
published_either (ref ∷ refs) catalogue b is =
    one_published ref (unshared refs catalogue) catalogue b (list_any (same_page ref) catalogue) refl
    (⊎_elim (λ here. inl here) (λ there. inr (published_either refs catalogue b there)) (some_split ref.extent (extents_of refs) b is))

-- the parts of the extents that a root reaches
abbrev catalogue_pages : Contents → List Extent
catalogue_pages c = extents_of (stored_refs c.catalogue)

abbrev history_pages : Contents → List Extent
history_pages c = extents_of (stored_refs c.history.pages)

abbrev own_pages : Contents → List Extent
own_pages c = extents_of (unshared (stored_refs c.published) (stored_refs c.catalogue))

abbrev bodies : Contents → List Extent
bodies c = bodies_of (records_of c.catalogue)

abbrev all_pages : Contents → List Extent
all_pages c = catalogue_pages c ++ history_pages c ++ own_pages c

module _ (root : Root) (c : Contents) (b : ℕ) where
  -- all of the parts
  pub reaches_directory : within root.directory b ≡ true → in_some (reach root c) b ≡ true
  reaches_directory is = some_first root.directory (all_pages c ++ bodies c) b is

  reaches_pages : in_some (all_pages c) b ≡ true → in_some (reach root c) b ≡ true
  reaches_pages is = some_rest root.directory (all_pages c ++ bodies c) b (some_front (all_pages c) (bodies c) b is)

  reaches_lists : in_some (catalogue_pages c ++ history_pages c) b ≡ true → in_some (reach root c) b ≡ true
  reaches_lists is = reaches_pages (some_front (catalogue_pages c ++ history_pages c) (own_pages c) b is)

  pub reaches_catalogue : in_some (extents_of (stored_refs c.catalogue)) b ≡ true → in_some (reach root c) b ≡ true
  reaches_catalogue is = reaches_lists (some_front (catalogue_pages c) (history_pages c) b is)

  pub reaches_history : in_some (extents_of (stored_refs c.history.pages)) b ≡ true → in_some (reach root c) b ≡ true
  reaches_history is = reaches_lists (some_behind (catalogue_pages c) (history_pages c) b is)

  pub reaches_unshared : in_some (extents_of (unshared (stored_refs c.published) (stored_refs c.catalogue))) b ≡ true → in_some (reach root c) b ≡ true
  reaches_unshared is = reaches_pages (some_behind (catalogue_pages c ++ history_pages c) (own_pages c) b is)

  pub reaches_bodies : in_some (bodies_of (records_of c.catalogue)) b ≡ true → in_some (reach root c) b ≡ true
  reaches_bodies is = some_rest root.directory (all_pages c ++ bodies c) b (some_behind (all_pages c) (bodies c) b is)

  -- the published pages, whether they are also catalogue pages or not
  pub reaches_published : in_some (extents_of (stored_refs c.published)) b ≡ true → in_some (reach root c) b ≡ true
  reaches_published is =
      ⊎_elim (λ own. reaches_unshared own) (λ shared. reaches_catalogue shared)
      (published_either (stored_refs c.published) (stored_refs c.catalogue) b is)

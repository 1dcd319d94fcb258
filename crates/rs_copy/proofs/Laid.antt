-- A layout has room: all its blocks were free, and no two parts have a block in common.
use Rattle.std.proofs.Common.{◌≡◌, ◌≤◌, ◌<◌, ◌+◌, ◌*◌, ℕ, Bool, true, false, nat_lt, List, [], ◌∷◌, ◌++◌, length, map, sym, ◌∙◌, ap, ap₂, subst, arith}
use Rattle.std.specs.Prelude.{All}
use Rattle.std.specs.List.{AllZip}
use Rattle.std.proofs.lemmas.Bool.Decides.{nat_tests}
use Rattle.std.proofs.lemmas.List.Elements.{All-nil, All-cons, All-head, All-tail}
use Rattle.rs_extent.specs.declared.Extent.{Extent}
use Rattle.rs_extent.specs.Extents.{in_some, AreTaken, IsSubset}
use Rattle.rs_copy.proofs.FromBelow.{some_first, some_rest, some_front, some_behind, taken_both, taken_before, fits_sized, taken_places, settled_places, taken_lowest, places_items, places_length}
use Rattle.rs_body.specs.Blocks.{IsSized, blocks_of}
use Rattle.rs_record.specs.declared.record.Record.{Record}
use Rattle.rs_page.specs.Items.{record_format, change_format}
use Rattle.rs_page.specs.Pages.{placed_extents}
use Rattle.rs_catalogue.specs.Catalogue.{records_of}
use Rattle.rs_changes.specs.History.{changes_of}
use Rattle.rs_directory.specs.Directory.{directory_length}
use Rattle.rs_directory.specs.declared.header.Header.{Header}
use Rattle.rs_image.specs.declared.contents.Contents.{Contents}
use Rattle.rs_image.specs.Reach.{bodies_of, blocks_of_disk, AreInside}
use Rattle.rs_image.specs.StateOfImage.{directory_bytes_of}
use Rattle.rs_copy.specs.Laying.{with_extents, IsMoved, as_published, copied_lists, records_needed, IsLaidOut}
use Rattle.rs_copy.specs.Copying.{HasPlace, HasRoom, pages_in, is_slot, written_in}
use Rattle.rs_copy.proofs.FullPages.{full_items, full_unplaced}
use Rattle.rs_copy.proofs.Records.{IsSizedRecord}
use Rattle.rs_copy.proofs.Taking.{all_taken, given, taken_sized}

-- the pages of every list are among those of all lists
pub among_first : (c : Contents) → IsSubset (in_some (placed_extents c.catalogue)) (in_some (pages_in c))
among_first c b is =
    some_front (placed_extents c.catalogue ++ placed_extents c.history.pages) (placed_extents c.published) b (some_front (placed_extents c.catalogue) (placed_extents c.history.pages) b is)

pub among_second : (c : Contents) → IsSubset (in_some (placed_extents c.history.pages)) (in_some (pages_in c))
among_second c b is =
    some_front (placed_extents c.catalogue ++ placed_extents c.history.pages) (placed_extents c.published) b (some_behind (placed_extents c.catalogue) (placed_extents c.history.pages) b is)

pub among_last : (c : Contents) → IsSubset (in_some (placed_extents c.published)) (in_some (pages_in c))
among_last c b is = some_behind (placed_extents c.catalogue ++ placed_extents c.history.pages) (placed_extents c.published) b is

-- .. and pages and bodies are among the written extents
pub pages_among : (c : Contents) (directory : Extent) → IsSubset (in_some (pages_in c)) (in_some (written_in c directory))
pages_among c directory b is = some_rest directory (pages_in c ++ bodies_of (records_of c.catalogue)) b (some_front (pages_in c) (bodies_of (records_of c.catalogue)) b is)

pub bodies_among : (c : Contents) (directory : Extent) → IsSubset (in_some (bodies_of (records_of c.catalogue))) (in_some (written_in c directory))
bodies_among c directory b is = some_rest directory (pages_in c ++ bodies_of (records_of c.catalogue)) b (some_behind (pages_in c) (bodies_of (records_of c.catalogue)) b is)

pub block_fits : (size b : ℕ) → b < blocks_of_disk size → 512 * b + 512 ≤ size
block_fits size b less = omega arith

low_not : (b : ℕ) → nat_lt b 2 ≡ false → 2 ≤ b
low_not b is = grind (arith, nat_tests)

pub places_among : (size : ℕ) (rs : List Record) → ((b : ℕ) → in_some (bodies_of rs) b ≡ true → 512 * b + 512 ≤ size) → All IsSizedRecord rs → All (HasPlace size) rs
places_among size [] inside sized = All-nil (HasPlace size)
places_among size (r ∷ rs) inside sized =
    All-cons (HasPlace size) r rs
    (record { room = λ b is. inside b (some_first r.extent (bodies_of rs) b is); fits = fits_sized r.extent r.length (All-head IsSizedRecord r rs sized) })
    (places_among size rs (λ b is. inside b (some_rest r.extent (bodies_of rs) b is)) (All-tail IsSizedRecord r rs sized))

module _ (size : ℕ) (c placed : Contents) (directory : Extent) (used : List Bool) (laid : IsLaidOut size c placed directory used) where
  abbrev all_places : List Extent
  all_places = written_in placed directory

  -- the lists have the items of a copy's lists
  records_are : records_of placed.catalogue ≡ with_extents (records_of c.catalogue) laid.bodies
  records_are =
      places_items record_format laid.after_bodies laid.lists.after_catalogue (copied_lists c laid.bodies).catalogue placed.catalogue laid.lists.catalogue
      ∙ full_items (with_extents (records_of c.catalogue) laid.bodies)

  pub changes_are : changes_of placed.history.pages ≡ changes_of c.history.pages
  changes_are =
      places_items change_format laid.lists.after_catalogue laid.lists.after_history (copied_lists c laid.bodies).history.pages placed.history.pages laid.lists.history
      ∙ full_items (changes_of c.history.pages)

  pub listed_are : records_of placed.published ≡ map (as_published (records_of placed.catalogue)) (records_of c.published)
  listed_are =
      places_items record_format laid.lists.after_history laid.lists.after_published (copied_lists c laid.bodies).published placed.published laid.lists.published
      ∙ full_items (map (as_published (with_extents (records_of c.catalogue) laid.bodies)) (records_of c.published))
      ∙ ap (λ (held : List Record). map (as_published held) (records_of c.published)) (sym records_are)

  were_given : (bodies_of (with_extents (records_of c.catalogue) laid.bodies) ≡ laid.bodies) × AllZip IsMoved (records_of c.catalogue) (with_extents (records_of c.catalogue) laid.bodies)
      × All IsSizedRecord (with_extents (records_of c.catalogue) laid.bodies)
  were_given = given laid.start laid.after_bodies (records_of c.catalogue) laid.bodies laid.held

  pub records_moved : AllZip IsMoved (records_of c.catalogue) (records_of placed.catalogue)
  records_moved = subst (λ (l : List Record). AllZip IsMoved (records_of c.catalogue) l) (sym records_are) were_given.1

  pub records_sized : All IsSizedRecord (records_of placed.catalogue)
  records_sized = subst (All IsSizedRecord) (sym records_are) were_given.2

  -- every part takes blocks
  bodies_taken : AreTaken laid.start laid.after_bodies (bodies_of (records_of placed.catalogue))
  bodies_taken =
      subst (λ (es : List Extent). AreTaken laid.start laid.after_bodies es)
      (sym (ap bodies_of records_are ∙ were_given.0))
      (all_taken laid.start laid.after_bodies (records_needed (records_of c.catalogue)) laid.bodies laid.held)

  pages_taken : AreTaken laid.after_bodies laid.lists.after_published (pages_in placed)
  pages_taken =
      let lists = copied_lists c laid.bodies in
      let t = laid.lists in
      taken_both laid.after_bodies t.after_history t.after_published (placed_extents placed.catalogue ++ placed_extents placed.history.pages) (placed_extents placed.published)
      (taken_both laid.after_bodies t.after_catalogue t.after_history (placed_extents placed.catalogue) (placed_extents placed.history.pages)
      (taken_places record_format laid.after_bodies t.after_catalogue lists.catalogue placed.catalogue t.catalogue (full_unplaced (with_extents (records_of c.catalogue) laid.bodies)))
      (taken_places change_format t.after_catalogue t.after_history lists.history.pages placed.history.pages t.history (full_unplaced (changes_of c.history.pages))))
      (taken_places record_format t.after_history t.after_published lists.published placed.published t.published
      (full_unplaced (map (as_published (with_extents (records_of c.catalogue) laid.bodies)) (records_of c.published))))

  pub taken : AreTaken laid.start used all_places
  taken =
      taken_before laid.start laid.lists.after_published used (directory ∷ []) (pages_in placed ++ bodies_of (records_of placed.catalogue))
      (taken_before laid.start laid.after_bodies laid.lists.after_published (pages_in placed) (bodies_of (records_of placed.catalogue)) bodies_taken pages_taken)
      (taken_lowest laid.lists.after_published used (blocks_of (directory_bytes_of (copied_lists c laid.bodies))) directory laid.lists.last)

  -- so all parts lie on the disk after the slots
  not_slots : (b : ℕ) → in_some all_places b ≡ true → is_slot b ≡ false
  not_slots b is =
      let lt : b < blocks_of_disk size = omega (arith, taken.inside b is, laid.slots_alone.blocks) in
      sym (laid.slots_alone.slots b lt) ∙ taken.before b is

  pub inside : AreInside size all_places
  inside b is = (low_not b (not_slots b is), omega (arith, taken.inside b is, laid.slots_alone.blocks))

  on_disk : (b : ℕ) → in_some all_places b ≡ true → 512 * b + 512 ≤ size
  on_disk b is = block_fits size b (inside b is).1

  -- the directory has the length for which it took blocks
  long_as : directory_bytes_of placed ≡ directory_bytes_of (copied_lists c laid.bodies)
  long_as =
      let lists = copied_lists c laid.bodies in
      let t = laid.lists in
      let pages : length placed.catalogue + length placed.history.pages + length placed.published ≡ length lists.catalogue + length lists.history.pages + length lists.published =
      omega (
        arith,
        places_length record_format laid.after_bodies t.after_catalogue lists.catalogue placed.catalogue t.catalogue,
        places_length change_format t.after_catalogue t.after_history lists.history.pages placed.history.pages t.history,
        places_length record_format t.after_history t.after_published lists.published placed.published t.published,
      ) in
      ap₂ (λ (h : Header) (n : ℕ). directory_length h n) t.header pages

  directory_sized : IsSized directory (directory_bytes_of placed)
  directory_sized = subst (λ (n : ℕ). IsSized directory n) (sym long_as) (taken_sized laid.lists.after_published used (directory_bytes_of (copied_lists c laid.bodies)) directory laid.lists.last)

  pub room : HasRoom size placed directory
  room =
      let lists = copied_lists c laid.bodies in
      let t = laid.lists in
      record {
        bodies = places_among size (records_of placed.catalogue)
            (λ b is. on_disk b (bodies_among placed directory b is)) records_sized;
        on_disk = on_disk;
        apart = taken.apart;
        behind = not_slots;
        untouched = record {
          catalogue = settled_places record_format laid.after_bodies t.after_catalogue lists.catalogue placed.catalogue t.catalogue;
          history = settled_places change_format t.after_catalogue t.after_history lists.history.pages placed.history.pages t.history;
          published = settled_places record_format t.after_history t.after_published lists.published placed.published t.published;
        };
        sized = directory_sized;
      }

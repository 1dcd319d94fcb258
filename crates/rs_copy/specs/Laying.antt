-- The layout of a copy: every part in turn takes the lowest run of free blocks of its size.
use Rattle.std.specs.Prelude.{◌≡◌, ◌⊎◌, ◌<◌, ◌&&◌, ℕ, Bool, nat_eq, nat_lt, if◌then◌else◌, List, [], ◌∷◌, ◌++◌, length, map, Option, Some, None}
use Rattle.rs_extent.specs.declared.Extent.{Extent}
use Rattle.rs_extent.specs.Blocks.{is_used}
use Rattle.rs_record.specs.declared.record.Record.{Record}
use Rattle.rs_body.specs.Blocks.{blocks_of}
use Rattle.rs_model.specs.Names.{value_of}
use Rattle.rs_page.specs.Items.{record_format, change_format}
use Rattle.rs_page.specs.Pages.{stored}
use Rattle.rs_page.specs.Placing.{Places}
use Rattle.rs_pages.specs.Dropped.{full_pages}
use Rattle.rs_catalogue.specs.Catalogue.{records_of}
use Rattle.rs_catalogue.specs.Named.{named}
use Rattle.rs_changes.specs.History.{changes_of, with_pages}
use Rattle.rs_image.specs.declared.contents.Contents.{Contents}
use Rattle.rs_image.specs.Reach.{blocks_of_disk}
use Rattle.rs_image.specs.StateOfImage.{directory_bytes_of}
use Rattle.rs_plan.specs.Room.{HasNoRoom, Takes, TakesEach, pages_needed}

-- the records, each with the extent at its place
abbrev pub with_extents : List Record → List Extent → List Record
with_extents [] extents = []
with_extents (r ∷ records) [] = r ∷ records
with_extents (r ∷ records) (extent ∷ extents) = record r { extent = extent } ∷ with_extents records extents

-- the same record, except perhaps for its extent
abbrev pub IsMoved : Record → Record → Type 0
IsMoved r moved = moved ≡ record r { extent = moved.extent }

-- the extent of a published record, given the held record of its name: the held record's extent, if moment and length
-- agree; else block 0 and the number of blocks for its own length
abbrev pub extent_beside : Option Record → Record → Extent
extent_beside None r = record { first = 0; blocks = blocks_of r.length }
extent_beside (Some held) r =
    if nat_eq held.moment r.moment && nat_eq held.length r.length then held.extent else record { first = 0; blocks = blocks_of r.length }

-- the extent of a published record in a copy that holds these records
abbrev pub extent_published : List Record → Record → Extent
extent_published held r = extent_beside (value_of r.name (named held)) r

-- the published record with that extent
abbrev pub as_published : List Record → Record → Record
as_published held r = record r { extent = extent_published held r }

-- The lists of a copy whose bodies lie in these extents. Every list has its own pages of 64 items, which have no places
-- yet.
abbrev pub copied_lists : Contents → List Extent → Contents
copied_lists c bodies =
    let held = with_extents (records_of c.catalogue) bodies in
    record {
      header = c.header;
      catalogue = full_pages held;
      history = record { first = c.history.first; pages = full_pages (changes_of c.history.pages) };
      published = full_pages (map (as_published held) (records_of c.published));
    }

-- the number of blocks that each body of these records needs
abbrev pub records_needed : List Record → List ℕ
records_needed records = map (λ r. blocks_of r.length) records

-- the number of blocks that each page of a copy's lists needs, and then the directory, in the order in which they take
-- them: catalogue, changes, publication, directory
abbrev pub copy_needed : Contents → List ℕ
copy_needed c =
    pages_needed record_format c.catalogue
    ++ pages_needed change_format c.history.pages
    ++ pages_needed record_format c.published
    ++ blocks_of (directory_bytes_of c) ∷ []

-- On a disk of this many bytes only the blocks of the slots are used.
pub record HasSlotsAlone (size : ℕ) (used : List Bool) : Type 0 where
  pub blocks : length used ≡ blocks_of_disk size
  pub slots : (b : ℕ) → b < blocks_of_disk size → is_used used b ≡ nat_lt b 2

-- The pages of these lists took blocks in turn (catalogue, history, publication), and then the directory did. The rest
-- of the lists stays.
pub record ArePlacedInTurn (used : List Bool) (c placed : Contents) (directory : Extent) (after : List Bool) : Type 0 where
  pub after_catalogue : List Bool
  pub after_history : List Bool
  pub after_published : List Bool
  pub header : placed.header ≡ c.header
  pub first : placed.history.first ≡ c.history.first
  pub catalogue : Places record_format used c.catalogue after_catalogue placed.catalogue
  pub history : Places change_format after_catalogue c.history.pages after_history placed.history.pages
  pub published : Places record_format after_history c.published after_published placed.published
  pub last : Takes after_published (blocks_of (directory_bytes_of c)) directory after

-- A copy of these lists is laid out on a disk of this many bytes: after the slots the bodies took blocks in the order
-- of their names, and then the lists of the copy and their directory did.
pub record IsLaidOut (size : ℕ) (c placed : Contents) (directory : Extent) (used : List Bool) : Type 0 where
  pub start : List Bool
  pub after_bodies : List Bool
  pub bodies : List Extent
  pub slots_alone : HasSlotsAlone size start
  pub held : TakesEach start (records_needed (records_of c.catalogue)) bodies after_bodies
  pub lists : ArePlacedInTurn after_bodies (copied_lists c bodies) placed directory used

-- A disk of this many bytes lacks room for a copy of these lists: if every part in turn takes the lowest run of its
-- size after the slots, a body, a page or the directory finds no run.
pub record LacksCopyRoom (size : ℕ) (c : Contents) : Type 0 where
  pub start : List Bool
  pub slots_alone : HasSlotsAlone size start
  pub fails : HasNoRoom start (records_needed (records_of c.catalogue))
      ⊎ ((used : List Bool) × (bodies : List Extent) × TakesEach start (records_needed (records_of c.catalogue)) bodies used
      × HasNoRoom used (copy_needed (copied_lists c bodies)))

-- the lists after every page that was given blocks is stored
abbrev pub all_stored : Contents → Contents
all_stored c =
    record {
      header = c.header;
      catalogue = stored record_format c.catalogue;
      history = with_pages c.history (stored change_format c.history.pages);
      published = stored record_format c.published;
    }

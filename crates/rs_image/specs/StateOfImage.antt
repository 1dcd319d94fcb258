-- The state that an image of a disk holds.
use Rattle.std.specs.Prelude.{◌≡◌, ◌+◌, ℕ, List, length, map, All}
use Rattle.rs_fixity.specs.Digests.{digests}
use Rattle.rs_body.specs.Blocks.{part}
use Rattle.rs_commit.specs.declared.root.Root.{Root}
use Rattle.rs_commit.specs.Slots.{OpensTo}
use Rattle.rs_record.specs.declared.record.Record.{Record}
use Rattle.rs_model.specs.declared.value.Held.{Held}
use Rattle.rs_model.specs.State.{Source}
use Rattle.rs_model.specs.Listed.{entry_of}
use Rattle.rs_page.specs.Pages.{IsStored, stored_refs}
use Rattle.rs_pages.specs.Storing.{items_by_page}
use Rattle.rs_catalogue.specs.Catalogue.{records_of, HoldsCatalogue, IsCatalogue}
use Rattle.rs_changes.specs.History.{changes_of, HoldsHistory, IsHistory}
use Rattle.rs_directory.specs.Directory.{directory_bytes, directory_length, IsLawfulHeader, AreLawfulRefs}
use Rattle.rs_image.specs.declared.contents.Contents.{Contents}
use Rattle.rs_image.specs.Whole.{IsWhole}

-- a record with its body, which is the first bytes of its extent
abbrev pub held_in : List ℕ → Record → List ℕ × Held
held_in image r = (r.name, record { bytes = part r.extent r.length image; entry = (entry_of r).1 })

-- the state of these lists, with the bodies that the image has
abbrev pub state_in : List ℕ → Contents → Source
state_in image c =
    record {
      base = c.header.base;
      limit = c.header.limit;
      start = c.header.start;
      last = c.header.last;
      held = map (held_in image) (records_of c.catalogue);
      changes = changes_of c.history.pages;
      number = c.header.number;
      at = c.header.at;
      listed = map entry_of (records_of c.published);
      first = c.header.first;
      begin = c.header.begin;
    }

-- the bytes of the directory of these lists, in a version of the format
abbrev pub listing : ℕ → Contents → List ℕ
listing version c = directory_bytes version c.header (stored_refs c.catalogue) (stored_refs c.history.pages) (stored_refs c.published)

-- the number of pages of the lists
abbrev pub pages_in_all : Contents → ℕ
pages_in_all c = length c.catalogue + length c.history.pages + length c.published

-- the length of the directory of these lists in bytes, once all pages are stored
abbrev pub directory_bytes_of : Contents → ℕ
directory_bytes_of c = directory_length c.header (pages_in_all c)

-- all pages are stored
pub record AreAllStored (c : Contents) : Type 0 where
  pub catalogue : All IsStored c.catalogue
  pub history : All IsStored c.history.pages
  pub published : All IsStored c.published

-- The lists are those of a catalogue, of a history and of a catalogue at the time of its publication.
pub record AreLists (c : Contents) : Type 0 where
  pub catalogue : IsCatalogue c.catalogue
  pub history : IsHistory c.history.pages
  pub published : IsCatalogue c.published

-- entries of pages and a header that a directory of a version can have
pub record AreListable (version : ℕ) (c : Contents) : Type 0 where
  pub header : IsLawfulHeader version c.header
  pub catalogue : AreLawfulRefs (stored_refs c.catalogue)
  pub history : AreLawfulRefs (stored_refs c.history.pages)
  pub published : AreLawfulRefs (stored_refs c.published)

-- A root describes these lists in an image: the directory's bytes are theirs in the root's version and have the root's
-- digest, the pages that it names hold them, and all rules of the lists and their blocks are kept. So the image
-- determines their state.
pub record Tells (root : Root) (c : Contents) (image : List ℕ) (s : Source) : Type 0 where
  pub listable : AreListable root.version c
  pub directory : part root.directory root.length image ≡ listing root.version c
  pub digest : (digests (listing root.version c)).sha256 ≡ root.sha256
  pub catalogue : HoldsCatalogue (stored_refs c.catalogue) image (items_by_page c.catalogue)
  pub history : HoldsHistory (stored_refs c.history.pages) image (items_by_page c.history.pages)
  pub published : HoldsCatalogue (stored_refs c.published) image (items_by_page c.published)
  pub whole : IsWhole (length image) root c
  pub state : state_in image c ≡ s

-- a root describes no lists in an image, of any state
abbrev pub TellsNothing : Root → List ℕ → Type 0
TellsNothing root image = (c : Contents) (s : Source) → ¬ Tells root c image s

-- An image represents a state: it opens to a root, which describes lists of this state in it.
abbrev pub StandsFor : List ℕ → Source → Type 0
StandsFor image s = (root : Root) × OpensTo root image × ((c : Contents) × Tells root c image s)

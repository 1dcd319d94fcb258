-- Terms of the loader's contracts: the places where a directory and its pages may lie, a directory that was read, and
-- the lists that its pages hold.
use Rattle.std.specs.Prelude.{◌≡◌, ◌<◌, ◌≤◌, ◌+◌, List, length, ℕ, true, All, IsTrue}
use Rattle.rs_disk.specs.Medium.{DiskState}
use Rattle.rs_disk.specs.Runs.{RunsReading, CallsAtMost}
use Rattle.rs_fixity.specs.Digests.{digests}
use Rattle.rs_extent.specs.Extents.{within}
use Rattle.rs_extent.specs.declared.Extent.{Extent}
use Rattle.rs_body.specs.Blocks.{IsSized, part}
use Rattle.rs_commit.specs.declared.root.Root.{Root}
use Rattle.rs_time.specs.Moment.{greatest}
use Rattle.rs_record.specs.declared.record.Record.{Record}
use Rattle.rs_record.specs.declared.change.Change.{Change}
use Rattle.rs_page.specs.declared.place.PageRef.{PageRef}
use Rattle.rs_page.specs.Pages.{stored_refs}
use Rattle.rs_pages.specs.Storing.{items_by_page, unshared}
use Rattle.rs_catalogue.specs.Catalogue.{HoldsCatalogue}
use Rattle.rs_changes.specs.History.{HoldsHistory}
use Rattle.rs_directory.specs.Directory.{directory_bytes, AreLawful}
use Rattle.rs_directory.specs.declared.directory.Directory.{Directory}
use Rattle.rs_image.specs.declared.contents.Contents.{Contents}
use Rattle.rs_image.specs.Reach.{blocks_of_disk}
use Rattle.rs_image.specs.StateOfImage.{AreAllStored}

-- all blocks of an extent are after the slots, among the usable blocks of a disk of this many bytes
abbrev pub IsInside : ℕ → Extent → Type 0
IsInside size extent = (b : ℕ) → within extent b ≡ true → (2 ≤ b) × (b < blocks_of_disk size)

-- An extent has exactly the blocks of n bytes, all of them inside.
pub record IsPlaced (size : ℕ) (extent : Extent) (n : ℕ) : Type 0 where
  pub sized : IsSized extent n
  pub inside : IsInside size extent

-- the directory of a root is placed so ..
abbrev pub IsDirectoryPlaced : ℕ → Root → Type 0
IsDirectoryPlaced size root = IsPlaced size root.directory root.length

-- .. and so is a page
abbrev pub IsPagePlaced : ℕ → PageRef → Type 0
IsPagePlaced size ref = IsPlaced size ref.extent ref.length

-- All pages that a directory names are placed so.
pub record ArePlaced (size : ℕ) (d : Directory) : Type 0 where
  pub catalogue : All (IsPagePlaced size) d.catalogue.items
  pub changes : All (IsPagePlaced size) d.changes.items
  pub published : All (IsPagePlaced size) d.published.items

-- the bytes of a directory in a version of the format
abbrev pub spelled : ℕ → Directory → List ℕ
spelled version d = directory_bytes version d.header d.catalogue.items d.changes.items d.published.items

-- the rules that every directory of a version that was read keeps
abbrev pub IsLawfulDirectory : ℕ → Directory → Type 0
IsLawfulDirectory version d = AreLawful version d.header d.catalogue.items d.changes.items d.published.items

-- Where the root's extent holds the bytes of a directory, all pages that it names are placed.
abbrev pub NamesPlaced : ℕ → Root → List ℕ → Type 0
NamesPlaced size root image = (d : Directory) → IsLawfulDirectory root.version d → part root.directory root.length image ≡ spelled root.version d → ArePlaced size d

-- The lists are those of a directory: they have its header, the history its first number, and all their pages are
-- stored where it says.
pub record AreOf (d : Directory) (c : Contents) : Type 0 where
  pub header : c.header ≡ d.header
  pub first : c.history.first ≡ d.header.first
  pub catalogue : stored_refs c.catalogue ≡ d.catalogue.items
  pub changes : stored_refs c.history.pages ≡ d.changes.items
  pub published : stored_refs c.published ≡ d.published.items
  pub stored : AreAllStored c

-- the number of pages that are read with a directory: all pages that it names, but no published page that is also a
-- catalogue page
abbrev pub pages_read : Directory → ℕ
pages_read d = length d.catalogue.items + (length d.changes.items + length (unshared d.published.items d.catalogue.items))

-- Facts about reading the lists of a root, for every answer.
-- `runs`: only the counts of the disk change.
-- `once`: the directory costs one call at most, and every page that it names one more.
-- `placed`: of a device that has followed the model, no page of the lists is read unless all of them are placed.
pub record ReadsBehind (root : Root) (told : Type 0) (old new : DiskState) : Type 0 where
  pub runs : RunsReading told old new
  pub once : old.calls + 1 < new.calls → (d : Directory) × ((digests (spelled root.version d)).sha256 ≡ root.sha256) × CallsAtMost (1 + pages_read d) old new
  pub placed : old.calls + 1 < new.calls → IsTrue new.honest → NamesPlaced new.size root new.now.seen

-- Facts about the disk where memory is refused to a reader of a root: it checks the places before it asks for memory.
-- `directory`: the directory is placed.
-- `pages`: of a device that has followed the model, once the directory was read, every page that it names is placed.
pub record RefusesMemory (root : Root) (old new : DiskState) : Type 0 where
  pub directory : IsDirectoryPlaced new.size root
  pub pages : IsTrue new.honest → old.calls < new.calls → NamesPlaced new.size root new.now.seen

-- A directory that was read for a root, in the root's version.
-- `placed`, `room`, `pages`: it is placed, so that the disk has the slots, and so are all pages that it names.
-- `lawful`, `first`: it keeps the rules of its version, and its first part has a number that a history can have.
-- `digest`, `found`: its bytes have the root's digest, and a device that has followed the model holds them.
pub record IsReadBehind (root : Root) (disk : DiskState) (d : Directory) : Type 0 where
  pub placed : IsDirectoryPlaced disk.size root
  pub room : 1024 ≤ disk.size
  pub pages : ArePlaced disk.size d
  pub lawful : IsLawfulDirectory root.version d
  pub first : d.header.first ≤ greatest
  pub digest : (digests (spelled root.version d)).sha256 ≡ root.sha256
  pub found : IsTrue disk.honest → part root.directory root.length disk.now.seen ≡ spelled root.version d

-- Facts about reading the lists of a directory, for every answer.
-- `runs`: only the counts of the disk change.
-- `calls`: every page that the directory names costs one call at most.
pub record ReadsLists (d : Directory) (told : Type 0) (old new : DiskState) : Type 0 where
  pub runs : RunsReading told old new
  pub calls : CallsAtMost (pages_read d) old new

-- The pages of a directory hold these records, changes and published records in an image, page for page.
pub record Hold (d : Directory) (image : List ℕ) (records : List (List Record)) (moves : List (List Change)) (listed : List (List Record)) : Type 0 where
  pub catalogue : HoldsCatalogue d.catalogue.items image records
  pub changes : HoldsHistory d.changes.items image moves
  pub published : HoldsCatalogue d.published.items image listed

-- they hold these lists, ..
abbrev pub HoldLists : Directory → List ℕ → Contents → Type 0
HoldLists d image c = Hold d image (items_by_page c.catalogue) (items_by_page c.history.pages) (items_by_page c.published)

-- .. or no lists at all
abbrev pub HoldNoLists : Directory → List ℕ → Type 0
HoldNoLists d image = (records : List (List Record)) (moves : List (List Change)) (listed : List (List Record)) → ¬ Hold d image records moves listed

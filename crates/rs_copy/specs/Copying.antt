-- The definitions for the contracts within rs_copy: the effect of every step of a copy, and the content of the disk
-- after it.
use Rattle.std.specs.Prelude.{◌≡◌, ◌⊎◌, ◌<◌, ◌≤◌, ◌+◌, ◌*◌, ◌++◌, ℕ, Bool, [], nat_lt, ◌∷◌, List, length, map, All, Result, IfErr, IfOk, OnOk, IsErrOf, IsTrue}
use Rattle.rs_disk.specs.Medium.{IsImage}
use Rattle.rs_disk.specs.Leaves.{Leaves}
use Rattle.rs_disk.specs.Runs.{Advances, CallsAtMost, HasFailed, Rests}
use Rattle.rs_fixity.specs.Digests.{digests}
use Rattle.rs_extent.specs.declared.Extent.{Extent}
use Rattle.rs_extent.specs.Blocks.{block_size}
use Rattle.rs_extent.specs.Extents.{IsOnDisk, AreOnDisk, AreApart, AreBeside}
use Rattle.rs_body.specs.Blocks.{part, IsSized}
use Rattle.rs_body.specs.Outside.{WritesOutside}
use Rattle.rs_commit.specs.declared.root.Root.{Root}
use Rattle.rs_commit.specs.Commit.{IsReady}
use Rattle.rs_commit.specs.Slots.{Standing, written_version}
use Rattle.rs_commit.specs.Format.{fresh, IsAsBefore}
use Rattle.rs_record.specs.declared.record.Record.{Record}
use Rattle.rs_model.specs.State.{Source}
use Rattle.rs_page.specs.declared.page.store.StoreFault.{StoreFault}
use Rattle.rs_page.specs.declared.page.store.StoreFault.TheVariants.{Device as NoDevice, NoMemory as NoPageMemory}
use Rattle.rs_page.specs.Items.{record_format, change_format}
use Rattle.rs_page.specs.Pages.{IsTouched, placed_extents}
use Rattle.rs_page.specs.DiskPages.{IsWritten}
use Rattle.rs_catalogue.specs.Catalogue.{records_of}
use Rattle.rs_directory.specs.Directory.{written_format}
use Rattle.rs_image.specs.declared.contents.Contents.{Contents}
use Rattle.rs_image.specs.Reach.{bodies_of}
use Rattle.rs_image.specs.Rooted.{rooted, MemoryIsSound}
use Rattle.rs_image.specs.StateOfImage.{Tells, AreListable, listing, held_in, state_in, directory_bytes_of, AreLists}
use Rattle.rs_image.specs.Whole.{IsWhole}
use Rattle.rs_copy.specs.declared.faults.CopyFault.{CopyFault}
use Rattle.rs_copy.specs.declared.faults.CopyFault.TheVariants.{TooSmall, Full, Device, Damaged, NoMemory}
use Rattle.rs_copy.specs.declared.laying_out.Layout.{Layout}
use Rattle.rs_copy.specs.Laying.{all_stored}
use Rattle.rs_copy.specs.Copies.{Disks, HasItsBody, NoneOrState, StopsCopying, calls_for}

-- the fault of a copy for the fault of a page
abbrev pub copy_fault_of : StoreFault → CopyFault
copy_fault_of NoDevice = Device
copy_fault_of NoPageMemory = NoMemory

-- the faults of the search for blocks
abbrev pub IsOfLaying : CopyFault → Type 0
IsOfLaying TooSmall = ⊥
IsOfLaying Full = Unit {0}
IsOfLaying Device = ⊥
IsOfLaying Damaged = ⊥
IsOfLaying NoMemory = Unit {0}

-- the faults of the writing
abbrev pub IsOfWriting : CopyFault → Type 0
IsOfWriting TooSmall = ⊥
IsOfWriting Full = ⊥
IsOfWriting Device = Unit {0}
IsOfWriting Damaged = Unit {0}
IsOfWriting NoMemory = Unit {0}

-- the faults of the directory's writing
abbrev pub IsOfListing : CopyFault → Type 0
IsOfListing TooSmall = ⊥
IsOfListing Full = ⊥
IsOfListing Device = Unit {0}
IsOfListing Damaged = ⊥
IsOfListing NoMemory = Unit {0}

-- no page has blocks of its own and waits to be written
pub record AreAllUnplaced (c : Contents) : Type 0 where
  pub catalogue : placed_extents c.catalogue ≡ []
  pub history : placed_extents c.history.pages ≡ []
  pub published : placed_extents c.published ≡ []

-- A run of calls of both disks of a copy reads the first disk and writes the second. The answer blames a device exactly
-- if a call of one of them failed. No call of a disk follows a failed call of that disk, and at most one call fails.
pub record RunsCopying (blames : Type 0) (old new : Disks) : Type 0 where
  pub rests : Rests old.from new.from
  pub advances : Advances old.to new.to
  pub failed : blames → HasFailed old.from new.from ⊎ HasFailed old.to new.to
  pub sound : ¬ blames → (new.from.faults ≡ old.from.faults) × (new.to.faults ≡ old.to.faults)
  pub stops : StopsCopying old new

-- A run of this kind that writes only these extents of the second disk: every set of blocks outside them stays.
pub record CopiesOnly (extents : List Extent) (blames : Type 0) (old new : Disks) : Type 0 where
  pub runs : RunsCopying blames old new
  pub outside : (kept : ℕ → Bool) → AreBeside kept extents → WritesOutside kept old.to new.to

-- The bodies of these records are copied to the extents of `moved` on the second disk, or the answer is a fault.
-- `copied`: they are the bodies that the first disk holds, if it has followed the model.
-- `intact`: every copied body has its SHA-256, whatever bytes the first disk gave.
-- `damaged`: Damaged comes only if a body on the first disk lacks its SHA-256, if that disk has followed the model.
pub record CopiesBodies {T : Type 0} (rs moved : List Record) (old new : Disks) (result : Result T CopyFault) : Type 0 where
  pub copied : OnOk result (IsTrue new.from.honest → map (held_in new.to.now.seen) moved ≡ map (held_in old.from.now.seen) rs)
  pub intact : OnOk result (All (HasItsBody new.to.now.seen) moved)
  pub damaged : IsErrOf result Damaged → IsTrue new.from.honest → ¬ All (HasItsBody old.from.now.seen) rs

-- the blocks of the slots
abbrev pub is_slot : ℕ → Bool
is_slot b = nat_lt b 2

-- A record's extent lies on a disk of this many bytes, and has room for the body.
pub record HasPlace (size : ℕ) (r : Record) : Type 0 where
  pub room : IsOnDisk r.extent size
  pub fits : r.length ≤ block_size * r.extent.blocks

-- the blocks of the pages that are still to be written
abbrev pub pages_in : Contents → List Extent
pages_in c = placed_extents c.catalogue ++ placed_extents c.history.pages ++ placed_extents c.published

-- every page has a place
pub record AreUntouched (c : Contents) : Type 0 where
  pub catalogue : All (λ page. ¬ IsTouched page.place) c.catalogue
  pub history : All (λ page. ¬ IsTouched page.place) c.history.pages
  pub published : All (λ page. ¬ IsTouched page.place) c.published

-- every page that was given blocks is written in them
pub record ArePagesWritten (image : List ℕ) (c : Contents) : Type 0 where
  pub catalogue : All (IsWritten record_format image) c.catalogue
  pub history : All (IsWritten change_format image) c.history.pages
  pub published : All (IsWritten record_format image) c.published

-- the root of a copy whose directory, of these lists, lies in this extent
abbrev pub copied_root : Extent → Contents → Root
copied_root directory c =
    record {
      version = written_version;
      generation = 1;
      directory = directory;
      length = length (listing written_format c);
      sha256 = (digests (listing written_format c)).sha256;
    }

-- This extent has the directory of these lists, and a directory can name these lists.
pub record IsListed (directory : Extent) (c : Contents) (image : List ℕ) : Type 0 where
  pub lists : AreLists c
  pub listable : AreListable written_format c
  pub long : length (listing written_format c) ≡ directory_bytes_of c
  pub reads : part directory (length (listing written_format c)) image ≡ listing written_format c

-- the extents that a copy writes after the slots, in the order in which a root reaches them
abbrev pub written_in : Contents → Extent → List Extent
written_in c directory = directory ∷ pages_in c ++ bodies_of (records_of c.catalogue)

-- A disk of this many bytes has room for a copy: the extents lie after the slots, no two have a block in common, every
-- page has its place, and the directory has exactly its blocks.
pub record HasRoom (size : ℕ) (c : Contents) (directory : Extent) : Type 0 where
  pub bodies : All (HasPlace size) (records_of c.catalogue)
  pub on_disk : AreOnDisk (written_in c directory) size
  pub apart : AreApart (written_in c directory)
  pub behind : AreBeside is_slot (written_in c directory)
  pub untouched : AreUntouched c
  pub sized : IsSized directory (directory_bytes_of c)

-- An image has the pages and the directory of a copy's lists.
pub record CopyStands (c : Contents) (directory : Extent) (image : List ℕ) : Type 0 where
  pub pages : ArePagesWritten image c
  pub listed : IsListed directory (all_stored c) image

-- Everything except the root is written as it was laid out: `made` is the root that names it, and the layout has the
-- stored lists.
pub record IsWrittenBehind (l l' : Layout) (made : Root) (image : List ℕ) : Type 0 where
  pub root : made ≡ copied_root l.directory (all_stored l.contents)
  pub layout : l' ≡ record l { contents = all_stored l.contents }
  pub stands : CopyStands l.contents l.directory image

-- some root of a disk of this many bytes leads to these lists, and they keep all rules
pub record IsBehindRoot (size : ℕ) (c : Contents) : Type 0 where
  pub root : Root
  pub whole : IsWhole size root c

-- The effect of writing a copy of these lists as it was laid out.
-- `runs`, `once`, `others`, `damaged`: the effect on both disks, that every body is read at most once, and the possible
-- faults.
-- `slots` to `intact`: after Ok the root leads to the stored lists, memory is sound, and every body has its SHA-256.
-- `holds`, `any_moment`, `settled`: how every image of the second disk relates to the state of the old lists, at the
-- end and meanwhile.
pub record WritesCopy (c : Contents) (l l' : Layout) (old new : Disks) (result : Result Standing CopyFault) : Type 0 where
  pub runs : RunsCopying (IsErrOf result Device) old new
  pub once : CallsAtMost (calls_for (records_of c.catalogue)) old.from new.from
  pub others : IfErr result IsOfWriting
  pub damaged : IsErrOf result Damaged → IsTrue new.from.honest → ¬ All (HasItsBody old.from.now.seen) (records_of c.catalogue)
  pub slots : IfOk result (λ slots. slots ≡ fresh (copied_root l.directory (all_stored l.contents)))
  pub ready : IfOk result (λ slots. IsReady slots new.to.now)
  pub layout : OnOk result (l' ≡ record l { contents = all_stored l.contents })
  pub sound : OnOk result (MemoryIsSound (rooted new.to.size (copied_root l.directory (all_stored l.contents)) (all_stored l.contents)) l.used)
  pub intact : OnOk result (All (HasItsBody new.to.now.seen) (records_of (all_stored l.contents).catalogue))
  pub holds : (s : Source) → IsTrue new.from.honest → state_in old.from.now.seen c ≡ s
      → OnOk result ((image : List ℕ) → IsImage new.to.now image
      → Tells (copied_root l.directory (all_stored l.contents)) (all_stored l.contents) image s)
  pub any_moment : (s : Source) → IsTrue new.from.honest → state_in old.from.now.seen c ≡ s
      → Leaves old.to new.to (λ _ image. NoneOrState s image ⊎ IsAsBefore old.to.now image)
  pub settled : (s : Source) → IsTrue new.from.honest → state_in old.from.now.seen c ≡ s
      → (old.to.calls + 3 < new.to.calls) ⊎ (new.to.faults ≡ old.to.faults)
      → Leaves old.to new.to (λ m image. old.to.calls + 3 ≤ m → NoneOrState s image)

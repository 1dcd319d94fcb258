-- The results of opening and formatting.
use Rattle.std.specs.Prelude.{◌≡◌, ℕ, List, false, None, Some, IsSome, IsTrue, Result, Ok, Err}
use Rattle.rs_disk.specs.Runs.{HasFailed}
use Rattle.rs_disk.specs.Medium.{Medium, DiskState}
use Rattle.rs_commit.specs.Slots.{Standing, current}
use Rattle.rs_commit.specs.Commit.{IsReady}
use Rattle.rs_commit.specs.declared.faults.SlotFault.{SlotFault}
use Rattle.rs_commit.specs.declared.faults.SlotFault.TheVariants as slots
use Rattle.rs_body.specs.declared.read.LoadFault.{LoadFault}
use Rattle.rs_body.specs.declared.read.LoadFault.TheVariants as lists
use Rattle.rs_store.specs.declared.opening.OpenFault.{OpenFault}
use Rattle.rs_store.specs.declared.opening.OpenFault.TheVariants.{NotASource, Damaged, Device, NoMemory}
use Rattle.rs_image.specs.declared.contents.Contents.{Contents}
use Rattle.rs_image.specs.StateOfImage.{StandsFor, Tells, state_in}
use Rattle.rs_image.specs.Loading.{IsDirectoryPlaced, NamesPlaced}
use Rattle.rs_model.specs.State.{Source}
use Rattle.rs_store.specs.Source.{Stored, Holds, state_of}

-- the disk after an answer: in the source, or returned with the refusal
abbrev pub disk_of : {D F : Type 0} → Result (Stored D) (D × F) → D
disk_of (Ok source) = source.disk
disk_of (Err refused) = refused.0

-- the fault with the name of a fault of the slots
abbrev pub of_slots : SlotFault → OpenFault
of_slots slots.NotASource = NotASource
of_slots slots.Device = Device

-- the fault with the name of a fault of the lists
abbrev pub of_lists : LoadFault → OpenFault
of_lists lists.Damaged = Damaged
of_lists lists.Device = Device
of_lists lists.NoMemory = NoMemory

-- The bytes of a disk hold these slots and lists: the slots are those of the bytes, and can be changed; the root tells
-- the lists.
pub record IsFound (seen : List ℕ) (settled : Medium) (standing : Standing) (c : Contents) : Type 0 where
  pub slots : current seen ≡ Some standing
  pub ready : IsReady standing settled
  pub tells : Tells standing.root c seen (state_in seen c)

-- An opened source. If the device has followed the model, its slots are those of the disk, and it holds the state that
-- the disk represented.
pub record IsOpened {D : Type 0} (device : D → DiskState) (old : DiskState) (source : Stored D) : Type 0 where
  pub is_open : source.is_closed ≡ false
  pub slots : IsTrue (device source.disk).honest → current old.now.seen ≡ Some source.slots
  pub holds : IsTrue (device source.disk).honest
      → Holds device source (state_of device source) × StandsFor old.now.seen (state_of device source)

-- Opening a disk of this many bytes may ask for memory: the slots give a root, and its directory lies after them on the
-- disk, in exactly the blocks of its length.
pub record MayAskForMemory (size : ℕ) (seen : List ℕ) : Type 0 where
  pub standing : Standing
  pub slots : current seen ≡ Some standing
  pub directory : IsDirectoryPlaced size standing.root

-- All pages that opening a disk of this many bytes reads have their places: the slots give a root, and its directory
-- names only pages with places.
pub record ArePagesPlaced (size : ℕ) (seen : List ℕ) : Type 0 where
  pub standing : Standing
  pub slots : current seen ≡ Some standing
  pub pages : NamesPlaced size standing.root seen

-- The reason why no source was opened: the slots gave no root; they gave one, but the disk represented no state; the
-- device failed; or memory ran out, for which opening asks only where the places allow it. All but Device assume a
-- device that has followed the model.
abbrev pub IsNotOpened : DiskState → DiskState → OpenFault → Type 0
IsNotOpened old new NotASource = IsTrue new.honest → current old.now.seen ≡ None
IsNotOpened old new Damaged = IsTrue new.honest → IsSome (current old.now.seen) × ((s : Source) → ¬ StandsFor old.now.seen s)
IsNotOpened old new Device = HasFailed old new
IsNotOpened old new NoMemory = IsTrue new.honest → MayAskForMemory old.size old.now.seen

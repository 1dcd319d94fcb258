-- A source on a memory disk after a stop.
use Rattle.std.specs.Prelude.{◌≡◌, ℕ, ◌<◌, ◌≤◌, false, IsTrue, List, length, take}
use Rattle.rs_record.specs.Base.{is_base}
use Rattle.rs_directory.specs.Limit.{IsLimit}
use Rattle.rs_image.specs.Reach.{blocks_of_disk}
use Rattle.rs_disk.specs.declared.memory.MemoryDisk.{MemoryDisk}
use Rattle.rs_disk.specs.Medium.{DiskState, image_of}
use Rattle.rs_disk.specs.Memory.{memory_state}
use Rattle.rs_model.specs.State.{Source}
use Rattle.rs_model.specs.Step.{fold_of}
use Rattle.rs_model.specs.declared.command.Command.{Command}
use Rattle.rs_image.specs.StateOfImage.{StandsFor}
use Rattle.rs_store.specs.declared.formatting.FormatFault.TheVariants as formattings
use Rattle.rs_store.specs.declared.opening.OpenFault.TheVariants as openings
use Rattle.rs_store.specs.declared.refusal.Refusal.TheVariants as refusals
use Rattle.rs_store.specs.declared.running.Ack.{Ack}
use Rattle.rs_store.specs.Source.{Stored, Holds}
use Rattle.rs_store.specs.Counted.{is_accepted, answered, counted_commands}
use Rattle.rs_store.specs.Runs.{Holding, AreAnswered}
use Rattle.rs_recovery.specs.declared.surviving.Halt.{Halt}
use Rattle.rs_recovery.specs.declared.surviving.Halt.TheVariants.{Formatting, Running, Imaging, Opening}
use Rattle.rs_recovery.specs.Recovered.{YieldsHeld}

-- The disk saw these commands answered from the start on, from some moment on.
abbrev pub IsRunFrom : Source → List (Command × ℕ) → List Ack → DiskState → Type 0
IsRunFrom start commands acks left = (first : DiskState) × AreAnswered first (Holding start) commands acks left

-- The run left this disk. Its image by this choice represents the state after the first j counted commands, for some j.
-- The source holds that state, and these commands include every accepted one.
pub record Survives (start : Source) (commands : List (Command × ℕ)) (acks : List Ack) (left : MemoryDisk) (choice : List ℕ) (source : Stored MemoryDisk) : Type 0 where
  pub run : IsRunFrom start commands acks (memory_state left)
  pub j : ℕ
  pub image : StandsFor (image_of choice (memory_state left).now) (fold_of start (take j (counted_commands commands acks)))
  pub accepted : length (answered is_accepted commands acks) ≤ j
  pub holds : Holds memory_state source (fold_of start (take j (counted_commands commands acks)))
  pub yields : YieldsHeld (fold_of start (take j (counted_commands commands acks)))

-- The opening called the disk empty or damaged.
abbrev pub IsLost : Halt → Type 0
IsLost (Formatting fault) = ⊥
IsLost (Running refusal) = ⊥
IsLost Imaging = ⊥
IsLost (Opening openings.NotASource) = Unit {0}
IsLost (Opening openings.Damaged) = Unit {0}
IsLost (Opening openings.Device) = ⊥
IsLost (Opening openings.NoMemory) = ⊥

-- A disk of this size in bytes can be formatted with this base and limit.
pub record MayFormat (base : List ℕ) (limit size : ℕ) : Type 0 where
  pub lawful : IsTrue (is_base base)
  pub among : IsLimit limit
  pub room : 16 ≤ blocks_of_disk size

-- The cause of a halt: the first cause that refuses the formatting; or without that, a failed device or refused memory
-- in the named step.
abbrev pub HasHalted : List ℕ → ℕ → ℕ → Halt → Type 0
HasHalted base limit size (Formatting formattings.BadBase) = is_base base ≡ false
HasHalted base limit size (Formatting formattings.BadLimit) = IsTrue (is_base base) × (¬ IsLimit limit)
HasHalted base limit size (Formatting formattings.TooSmall) = IsTrue (is_base base) × IsLimit limit × (blocks_of_disk size < 16)
HasHalted base limit size (Formatting formattings.Device) = MayFormat base limit size
HasHalted base limit size (Formatting formattings.NoMemory) = MayFormat base limit size
HasHalted base limit size (Running refusal) = (refusal ≡ refusals.NoMemory) × MayFormat base limit size
HasHalted base limit size Imaging = MayFormat base limit size
HasHalted base limit size (Opening fault) = MayFormat base limit size

-- A disk in memory as a disk of the model.
use Rattle.std.specs.Prelude.{◌≡◌, ℕ, ◌+◌, ◌<◌, ◌≤◌, ◌^◌, true, length}
use Rattle.rs_disk.specs.declared.memory.MemoryDisk.{MemoryDisk}
use Rattle.rs_disk.specs.declared.plan.Outcome.{Outcome}
use Rattle.rs_disk.specs.Medium.{Medium, DiskState, IsMedium}
use Rattle.rs_disk.specs.Contents.{medium_of}
use Rattle.rs_disk.specs.History.{held_within}
use Rattle.rs_disk.specs.Plan.{planned_by}

-- The state of a memory disk: it is always honest, and its record determines its content within earlier calls.
abbrev pub memory_state : MemoryDisk → DiskState
memory_state d = record {
  size = length d.contents.seen.items;
  calls = d.calls;
  faults = d.faults;
  last_failed = d.last_failed;
  honest = true;
  now = medium_of d.contents;
  within = λ k. held_within k d.history;
}

-- the outcome of the i-th further call of a memory disk, counted from 0
abbrev pub planned : MemoryDisk → ℕ → Outcome
planned d = planned_by d.plan

-- its parts have one size, and the bytes that a read returns are an image
pub sound : (d : MemoryDisk) → IsMedium (memory_state d).size (memory_state d).now
sound d = d.contents.sound

-- A counted call advances the plan: the plan for the next call but one becomes the plan for the next call.
pub record MovesOn (old new : MemoryDisk) : Type 0 where
  pub counted : old.calls + 1 < 2 ^ 64 → (i : ℕ) → planned new i ≡ planned old (i + 1)
  pub spent : 2 ^ 64 ≤ old.calls + 1 → (i : ℕ) → planned new i ≡ planned old i

-- A change by the call after `call` counted ones: within it the disk had the content `held`, and it has `next` since.
pub record Changes (call : ℕ) (held next : Medium) (old new : DiskState) : Type 0 where
  pub now : new.now ≡ next
  pub this : new.within call ≡ held
  pub past : (m : ℕ) → m < call → new.within m ≡ old.within m

-- The present content of the disk, and its content within earlier calls, stay as before.
pub record SameContents (old new : DiskState) : Type 0 where
  pub now : new.now ≡ old.now
  pub past : (m : ℕ) → new.within m ≡ old.within m

-- The size, the counts and whether the last call failed stay as before.
pub record SameCounts (old new : DiskState) : Type 0 where
  pub size : new.size ≡ old.size
  pub calls : new.calls ≡ old.calls
  pub faults : new.faults ≡ old.faults
  pub last_failed : new.last_failed ≡ old.last_failed

-- A call was counted after `call` others, and has not changed the content yet.
pub record Begun (call : ℕ) (disk : DiskState) : Type 0 where
  pub calls : disk.calls ≡ call + 1
  pub this : disk.within call ≡ disk.now

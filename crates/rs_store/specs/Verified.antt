-- The answers of a source to a request for damaged bodies.
use Rattle.std.specs.Prelude.{◌≡◌, ◌↔◌, ◌≤◌, ◌*◌, ℕ, Bool, not, nat_eq, List, map, length, Result, Vec, IfOk, IfErr, IsErrOf, IsTrue}
use Rattle.std.specs.List.{filter}
use Rattle.std.specs.Cmp.Lexicographic.{pointwise}
use Rattle.std.specs.Global.{Global}
use Rattle.rs_disk.specs.Medium.{DiskState}
use Rattle.rs_disk.specs.Runs.{RunsReading, CallsAtMost}
use Rattle.rs_fixity.specs.Digests.{digests}
use Rattle.rs_extent.specs.Blocks.{block_size}
use Rattle.rs_extent.specs.Extents.{IsOnDisk}
use Rattle.rs_record.specs.declared.record.Record.{Record}
use Rattle.rs_model.specs.declared.value.Held.{Held}
use Rattle.rs_model.specs.Names.{Names}
use Rattle.rs_model.specs.State.{Source}
use Rattle.rs_store.specs.declared.refusal.Refusal.{Refusal}
use Rattle.rs_store.specs.declared.refusal.Refusal.TheVariants.{Closed, Device, NoMemory}
use Rattle.rs_store.specs.OnlyReads.{OnlyReads}
use Rattle.rs_store.specs.Shows.{calls_for_held}
use Rattle.rs_store.specs.Source.{Stored, state_of}

-- the bytes of a held resource have their recorded SHA-256
abbrev pub is_sound : Held → Bool
is_sound held = pointwise nat_eq (digests held.bytes).sha256 held.entry.facts.digests.sha256

-- the names of the held resources without it, in their order
abbrev pub damaged_among : Names Held → List (List ℕ)
damaged_among held = map (λ e. e.0) (filter (λ e. not (is_sound e.1)) held)

abbrev pub damaged_names : Source → List (List ℕ)
damaged_names s = damaged_among s.held

-- A record's extent lies on a disk of this many bytes, and has room for the body.
pub record HasItsPlace (size : ℕ) (r : Record) : Type 0 where
  pub room : IsOnDisk r.extent size
  pub fits : r.length ≤ block_size * r.extent.blocks

-- the refusals of a search through bodies
abbrev pub IsOfLook : Refusal → Type 0
IsOfLook Device = Unit {0}
IsOfLook NoMemory = Unit {0}
IsOfLook refusal = ⊥

-- the refusals of a request for damaged bodies
abbrev pub IsOfVerify : Refusal → Type 0
IsOfVerify Closed = Unit {0}
IsOfVerify refusal = IsOfLook refusal

-- The answer of a source to a request for damaged bodies, and the source after it.
-- `names`: exactly the held names whose bytes lack their recorded SHA-256, in ascending order, if the device has
-- followed the model.
-- `few`: from every device, at most as many names as are held.
-- `once`: it reads every body at most once, also a damaged one.
-- `closed`, `unread`: Closed comes exactly from a closed source, whose disk is not read.
-- `runs`: Device comes where a device call failed, and otherwise only where the count of calls is at its last value.
-- `others`: the only other refusal is NoMemory.
-- `reads_only`: only the counts of the disk change, and the source stays open, also after Device.
pub record AnswersVerify {D : Type 0} (device : D → DiskState) (old new : Stored D) (result : Result (Vec (List ℕ) Global) Refusal) : Type 0 where
  pub names : IfOk result (λ names. IsTrue (device new.disk).honest → names.items ≡ damaged_names (state_of device old))
  pub few : IfOk result (λ names. length names.items ≤ length (state_of device old).held)
  pub once : CallsAtMost (calls_for_held (state_of device old).held) (device old.disk) (device new.disk)
  pub closed : IsErrOf result Closed ↔ IsTrue old.is_closed
  pub unread : IsErrOf result Closed → new ≡ old
  pub runs : RunsReading (IsErrOf result Device) (device old.disk) (device new.disk)
  pub others : IfErr result IsOfVerify
  pub reads_only : OnlyReads device old new

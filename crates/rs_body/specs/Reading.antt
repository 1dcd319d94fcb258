-- Reading a body, or a part of one.
use Rattle.std.specs.Prelude.{◌≡◌, ℕ, List, [], ◌++◌, length, take, drop, Result, OnOk, OnErr, IsErr, IsErrOf, IsTrue}
use Rattle.rs_disk.specs.Medium.{DiskState}
use Rattle.rs_disk.specs.Runs.{RunsReading, CallsAtMost}
use Rattle.rs_fixity.specs.Digests.{digests}
use Rattle.rs_extent.specs.declared.Extent.{Extent}
use Rattle.rs_body.specs.declared.read.LoadFault.{LoadFault}
use Rattle.rs_body.specs.declared.read.LoadFault.TheVariants.{Device, Damaged}
use Rattle.rs_body.specs.Blocks.{part}

-- A body as its record names it: its extent, its length in bytes, and its SHA-256.
pub record Named : Type 0 where
  pub extent : Extent
  pub length : ℕ
  pub sha256 : List ℕ

-- A body was read into `bytes`, or was not.
-- `found`: if the device has followed the model, the bytes are those of the extent.
-- `long`, `digest`: on every device, they have the length and the SHA-256 of the body.
-- `empty`: if the body was not read, there are no bytes.
-- `damaged`: if the device has followed the model, Damaged comes only if the bytes of the extent have another SHA-256.
-- `runs`: the disk does not change, and Device is answered only if the device failed.
-- `no_call`: a body of no bytes needs no call.
pub record ReadsBody (body : Named) (old new : DiskState) (bytes : List ℕ) (result : Result (Unit {0}) LoadFault) : Type 0 where
  pub found : OnOk result (IsTrue new.honest → bytes ≡ part body.extent body.length old.now.seen)
  pub long : OnOk result (length bytes ≡ body.length)
  pub digest : OnOk result ((digests bytes).sha256 ≡ body.sha256)
  pub empty : OnErr result (bytes ≡ [])
  pub damaged : IsErrOf result Damaged → IsTrue new.honest → ¬ ((digests (part body.extent body.length old.now.seen)).sha256 ≡ body.sha256)
  pub runs : RunsReading (IsErrOf result Device) old new
  pub no_call : body.length ≡ 0 → new ≡ old

-- The first n bytes of an extent were read, or were not. On every device there are n of them, and they are the extent's
-- if the device has followed the model. The disk does not change, and 0 bytes need no call.
pub record ReadsPart {T E : Type 0} (extent : Extent) (n : ℕ) (old new : DiskState) (bytes : List ℕ) (result : Result T E) : Type 0 where
  pub found : OnOk result (IsTrue new.honest → bytes ≡ part extent n old.now.seen)
  pub long : OnOk result (length bytes ≡ n)
  pub runs : RunsReading (IsErr result) old new
  pub no_call : n ≡ 0 → new ≡ old

-- n bytes are read by one call, or by no call if n is 0; the disk does not change.
pub record ReadsOnce (n : ℕ) (told : Type 0) (old new : DiskState) : Type 0 where
  pub runs : RunsReading told old new
  pub one_call : CallsAtMost 1 old new
  pub no_call : n ≡ 0 → new ≡ old

-- A piece of an extent was read after the bytes before it, up to byte `end` of the extent.
pub record HasNextPiece (extent : Extent) (end : ℕ) (old new : DiskState) (before after : List ℕ) : Type 0 where
  pub front : take (length before) after ≡ before
  pub long : length after ≡ end
  pub gives : IsTrue new.honest → part extent end old.now.seen ≡ part extent (length before) old.now.seen ++ drop (length before) after

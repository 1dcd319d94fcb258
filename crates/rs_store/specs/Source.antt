-- A stored source, as callers see it, and the state that it holds.
use Rattle.std.specs.Prelude.{◌≡◌, ℕ, Bool, false, List}
use Rattle.rs_disk.specs.Medium.{DiskState, IsImage}
use Rattle.rs_commit.specs.Slots.{Standing}
use Rattle.rs_commit.specs.Commit.{IsReady}
use Rattle.rs_model.specs.State.{Source}
use Rattle.rs_image.specs.declared.contents.Contents.{Contents}
use Rattle.rs_image.specs.Rooted.{Rooted, rooted}
use Rattle.rs_image.specs.StateOfImage.{Tells, state_in}

-- A stored source: its disk, its slots, the lists of the root, and whether it is closed. A device call that fails in a
-- command closes it.
pub record Stored (D : Type 0) : Type 0 where
  pub disk : D
  pub slots : Standing
  pub contents : Contents
  pub is_closed : Bool

-- its root with the lists
abbrev pub rooted_in : {D : Type 0} → (D → DiskState) → Stored D → Rooted
rooted_in device source = rooted (device source.disk).size source.slots.root source.contents

-- the state that its lists determine, by the bytes that a read of the disk gives
abbrev pub state_of : {D : Type 0} → (D → DiskState) → Stored D → Source
state_of device source = state_in (device source.disk).now.seen source.contents

-- A source holds a state: it is open, its slots can be changed, and every image of its disk tells the state by its
-- lists.
pub record Holds {D : Type 0} (device : D → DiskState) (source : Stored D) (s : Source) : Type 0 where
  pub is_open : source.is_closed ≡ false
  pub ready : IsReady source.slots (device source.disk).now
  pub tells : (image : List ℕ) → IsImage (device source.disk).now image → Tells source.slots.root source.contents image s

-- Blocks for the lists after a command whose bodies have theirs already.
use Rattle.std.specs.Prelude.{◌≡◌, Bool, List}
use Rattle.rs_extent.specs.declared.Extent.{Extent}
use Rattle.rs_extent.specs.Extents.{AreTaken}
use Rattle.rs_model.specs.declared.command.Reply.{Reply}
use Rattle.rs_image.specs.declared.contents.Contents.{Contents}
use Rattle.rs_image.specs.StateOfImage.{AreLists}
use Rattle.rs_plan.specs.declared.plan.Plan.{Plan}
use Rattle.rs_plan.specs.Room.{HasNoRoom, lists_needed}
use Rattle.rs_plan.specs.Placed.{HasItsPlaces}
use Rattle.rs_plan.specs.Plans.{places}

-- A plan has bodies in free blocks; then its pages and its directory take blocks. It lists all these blocks, has this
-- reply, and frees these extents. Its lists are those of a disk.
pub record IsPlacedFrom (used : List Bool) (bodies : List Extent) (c : Contents) (told : Reply) (gone : List Extent) (p : Plan) : Type 0 where
  pub after_bodies : List Bool
  pub takes : AreTaken used after_bodies bodies
  pub placed : HasItsPlaces after_bodies bodies c p
  pub taken : p.taken.items ≡ places p
  pub reply : p.reply ≡ told
  pub freed : p.freed.items ≡ gone
  pub lists : AreLists c

-- Once the bodies have taken their free blocks, there is no room for the lists.
pub record HasNoRoomFrom (used : List Bool) (bodies : List Extent) (c : Contents) : Type 0 where
  pub after_bodies : List Bool
  pub takes : AreTaken used after_bodies bodies
  pub fails : HasNoRoom after_bodies (lists_needed c)

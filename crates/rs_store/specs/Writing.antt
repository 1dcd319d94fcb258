-- Writing the lists of a plan.
use Rattle.std.specs.Prelude.{◌≡◌, ℕ, ◌++◌, List, length, All}
use Rattle.rs_extent.specs.declared.Extent.{Extent}
use Rattle.rs_extent.specs.Extents.{AreApart}
use Rattle.rs_fixity.specs.Digests.{digests}
use Rattle.rs_model.specs.declared.command.Command.{Command}
use Rattle.rs_image.specs.declared.contents.Contents.{Contents}
use Rattle.rs_directory.specs.Directory.{written_format}
use Rattle.rs_body.specs.Blocks.{IsSized}
use Rattle.rs_body.specs.Outside.{WritesOutside}
use Rattle.rs_disk.specs.Medium.{DiskState}
use Rattle.rs_disk.specs.Runs.{RunsWriting}
use Rattle.rs_page.specs.Items.{record_format, change_format}
use Rattle.rs_page.specs.Pages.{IsTouched, placed_extents}
use Rattle.rs_page.specs.DiskPages.{IsWritten}
use Rattle.rs_image.specs.Reach.{is_kept, AreInside}
use Rattle.rs_image.specs.Rooted.{Rooted}
use Rattle.rs_image.specs.StateOfImage.{listing, AreListable, AreLists}
use Rattle.rs_plan.specs.declared.plan.Plan.{Plan}
use Rattle.rs_plan.specs.declared.planning.PlanFault.{PlanFault}
use Rattle.rs_plan.specs.declared.planning.PlanFault.TheVariants.{Full as NoRoom, NoMemory as NoPlanMemory}
use Rattle.rs_store.specs.declared.refusal.Refusal.{Refusal}
use Rattle.rs_store.specs.declared.refusal.Refusal.TheVariants.{Full, NoMemory as OutOfMemory}
use Rattle.rs_store.specs.declared.writing.Written.{Written}
use Rattle.rs_store.specs.Source.{Stored}
use Rattle.rs_plan.specs.Plans.{IsPlanned, AreBodies, once_stored, places, planned_listing, AreWritten}
use Rattle.std.specs.List.{AllZip}

-- the refusal of a command without a plan
abbrev pub of_plan : PlanFault → Refusal
of_plan NoRoom = Full
of_plan NoPlanMemory = OutOfMemory

-- The length and the SHA-256 are those of the directory of these lists.
pub record IsDigestOf (c : Contents) (w : Written) : Type 0 where
  pub len : w.length ≡ length (listing written_format c)
  pub sha256 : w.sha256 ≡ (digests (listing written_format c)).sha256

-- This is the plan of some command.
pub record IsPlanOfSome (old : Rooted) (p : Plan) : Type 0 where
  pub command : Command
  pub moment : ℕ
  pub planned : IsPlanned old command moment p

-- the extents of the pages that were given blocks: those of the catalogue, and those of the history
abbrev pub touched_extents : Contents → List Extent
touched_extents c = placed_extents c.catalogue ++ placed_extents c.history.pages

-- every page of the catalogue and the history has a place
pub record ArePlaced (c : Contents) : Type 0 where
  pub catalogue : All (λ page. ¬ IsTouched page.place) c.catalogue
  pub history : All (λ page. ¬ IsTouched page.place) c.history.pages

-- every page of the catalogue and the history that was given blocks is written in them
pub record AreWrittenPages (image : List ℕ) (c : Contents) : Type 0 where
  pub catalogue : All (IsWritten record_format image) c.catalogue
  pub history : All (IsWritten change_format image) c.history.pages

-- The lists of a plan can be written to a disk of this many bytes: its places lie after the slots, no two with a block
-- in common, every page has a place, the directory has exactly its blocks, and a directory can name the lists.
pub record IsWritable (size : ℕ) (p : Plan) : Type 0 where
  pub inside : AreInside size (places p)
  pub apart : AreApart (places p)
  pub placed : ArePlaced p.contents
  pub directory : IsSized p.directory (length (planned_listing p))
  pub listable : AreListable written_format (once_stored p.contents)

-- The lists of a plan are written; a read gave `old` before and gives `new` now. The plan has the stored lists, and if
-- the bodies were in their extents, the whole plan is written.
pub record AreStoredLists (p p' : Plan) (old new : List ℕ) : Type 0 where
  pub contents : p'.contents ≡ once_stored p.contents
  pub lists : AreLists (once_stored p.contents)
  pub reads : (bodies : List (List ℕ)) → AllZip (λ extent bytes. IsSized extent (length bytes)) p.bodies.items bodies
      → AreBodies old p.bodies.items bodies → AreWritten p bodies new

-- The parts of a plan outside its lists are unchanged.
pub record StaysBesideLists (p p' : Plan) : Type 0 where
  pub bodies : p'.bodies ≡ p.bodies
  pub directory : p'.directory ≡ p.directory
  pub reply : p'.reply ≡ p.reply
  pub taken : p'.taken ≡ p.taken
  pub freed : p'.freed ≡ p.freed

-- A source wrote exactly these bodies of a plan: the memory is unchanged, all writes were outside the blocks that its
-- root reaches, no device call failed, and the bodies are in their extents.
pub record HasWrittenBodies {D : Type 0} (device : D → DiskState) (start now : Stored D) (p : Plan) (bodies : List (List ℕ)) : Type 0 where
  pub slots : now.slots ≡ start.slots
  pub contents : now.contents ≡ start.contents
  pub is_closed : now.is_closed ≡ start.is_closed
  pub outside : WritesOutside (is_kept start.slots.root start.contents) (device start.disk) (device now.disk)
  pub runs : RunsWriting ⊥ (device start.disk) (device now.disk)
  pub stand : AreBodies (device now.disk).now.seen p.bodies.items bodies

-- The writes of a command.
use Rattle.std.specs.Prelude.{◌≡◌, ℕ, Bool, true, not, ◌&&◌, ◌||◌, List, [], ◌∷◌, ◌++◌, length, All}
use Rattle.std.specs.List.{AllZip}
use Rattle.rs_extent.specs.declared.Extent.{Extent}
use Rattle.rs_fixity.specs.Digests.{digests}
use Rattle.rs_body.specs.Blocks.{part, IsSized}
use Rattle.rs_extent.specs.Extents.{in_some, AreBeside, AreApart}
use Rattle.rs_commit.specs.declared.root.Root.{Root}
use Rattle.rs_commit.specs.Commit.{next}
use Rattle.rs_model.specs.Step.{next_state, reply_to}
use Rattle.rs_model.specs.declared.command.Command.{Command}
use Rattle.rs_model.specs.declared.command.Command.TheVariants.{Put, Delete, Publish, Group}
use Rattle.rs_model.specs.declared.command.Item.TheVariants as single
use Rattle.rs_page.specs.Items.{record_format, change_format}
use Rattle.rs_page.specs.Pages.{IsTouched, placed_extents, stored}
use Rattle.rs_page.specs.DiskPages.{IsWritten}
use Rattle.rs_page.specs.SharedPages.{KeepsPages}
use Rattle.rs_changes.specs.History.{with_pages}
use Rattle.rs_directory.specs.Directory.{written_format}
use Rattle.rs_image.specs.declared.contents.Contents.{Contents}
use Rattle.rs_image.specs.Reach.{reach, is_kept, AreInside}
use Rattle.rs_image.specs.Whole.{IsWhole}
use Rattle.rs_image.specs.StateOfImage.{state_in, listing, AreListable}
use Rattle.rs_image.specs.Rooted.{Rooted, AreUsed}
use Rattle.rs_plan.specs.declared.plan.Plan.{Plan}
use Rattle.rs_plan.specs.Room.{HasNoRoom, TakesEach, lists_needed, bodies_needed, bodies_of_command}
use Rattle.rs_plan.specs.Placed.{AreUnplaced, HasItsPlaces}
use Rattle.rs_plan.specs.Published.{lists_after_publish}
use Rattle.rs_plan.specs.Turned.{no_body, first_of, lists_after_item, lists_after_items}

-- these bodies lie in these extents, one body in every extent
abbrev pub AreBodies : List ℕ → List Extent → List (List ℕ) → Type 0
AreBodies image extents bodies = AllZip (λ extent bytes. part extent (length bytes) image ≡ bytes) extents bodies

-- The lists after a command at its moment: where its bodies lie in these extents, their state is the one that follows
-- the state of the old lists; and their stored pages are pages of the old ones.
pub record IsNext (old : Contents) (command : Command) (moment : ℕ) (bodies : List Extent) (c : Contents) : Type 0 where
  pub turns : (image : List ℕ) → AreBodies image bodies (bodies_of_command command)
      → state_in image c ≡ next_state (state_in image old) command moment
  pub catalogue : KeepsPages old.catalogue c.catalogue
  pub history : KeepsPages old.history.pages c.history.pages

-- The lists after a command at its moment, whose bodies lie in these extents, before their pages have places: by the
-- page rule a record is bound or unbound in the pages of the catalogue, and a change is appended to those of the
-- history; a group does so for all its items in turn. A publication lists the pages of the catalogue, and drops the
-- first changes of the history.
abbrev pub lists_after : Contents → Command → ℕ → List Extent → Contents
lists_after old (Put name kind bytes) moment bodies = lists_after_item old (single.Put name kind bytes) moment (first_of bodies)
lists_after old (Delete name) moment bodies = lists_after_item old (single.Delete name) moment no_body
lists_after old Publish moment bodies = lists_after_publish old moment
lists_after old (Group items) moment bodies = lists_after_items old items moment bodies

-- the numbers of blocks that a command needs at its moment, in the order in which they are found: of its bodies, and of
-- the touched pages and the directory of the lists after it, which need as many wherever the bodies lie
abbrev pub command_needed : Contents → Command → ℕ → List ℕ
command_needed old command moment = bodies_needed (bodies_of_command command) ++ lists_needed (lists_after old command moment [])

-- The disk is full for a command: the blocks that the root reaches are used, runs for the parts of the command are
-- taken one after another, each the lowest of its own length, and the disk has no run for one of them.
pub record IsFullFor (old : Rooted) (command : Command) (moment : ℕ) : Type 0 where
  pub used : List Bool
  pub are_used : AreUsed old used
  pub lacks : HasNoRoom used (command_needed old.contents command moment)

-- the lists once their pages are stored
abbrev pub once_stored : Contents → Contents
once_stored c =
    record {
      header = c.header;
      catalogue = stored record_format c.catalogue;
      history = with_pages c.history (stored change_format c.history.pages);
      published = c.published;
    }

-- the blocks that a plan writes, in the order in which it found them: bodies, catalogue pages, change pages, directory
abbrev pub places : Plan → List Extent
places p =
    p.bodies.items ++ placed_extents p.contents.catalogue ++ placed_extents p.contents.history.pages ++ p.directory ∷ []

-- the bytes of the directory that it writes, in the version that is written
abbrev pub planned_listing : Plan → List ℕ
planned_listing p = listing written_format (once_stored p.contents)

-- the root that it leads to
abbrev pub planned_root : Root → Plan → Root
planned_root root p = next root p.directory (length (planned_listing p)) (digests (planned_listing p)).sha256

-- Every part of a plan gets the lowest run of its size, in the order of `places`, where the blocks that the root
-- reaches are used: first its bodies; then the catalogue pages and the change pages of the lists after the command,
-- whose touched pages have no place yet; then the directory.
pub record TakesInTurn (old : Rooted) (command : Command) (moment : ℕ) (p : Plan) : Type 0 where
  pub used : List Bool
  pub after_bodies : List Bool
  pub are_used : AreUsed old used
  pub bodies : TakesEach used (bodies_needed (bodies_of_command command)) p.bodies.items after_bodies
  pub unplaced : AreUnplaced (lists_after old.contents command moment p.bodies.items)
  pub placed : HasItsPlaces after_bodies p.bodies.items (lists_after old.contents command moment p.bodies.items) p

-- The blocks that a plan takes and gives back: its places are listed; the old root reaches the blocks that it gives
-- back, no two extents of which share a block; and the next root reaches the blocks that the old one reached, less
-- those given back, and the places.
pub record TakesAndGives (old : Rooted) (p : Plan) : Type 0 where
  pub taken : p.taken.items ≡ places p
  pub apart : AreApart p.freed.items
  pub reached : (b : ℕ) → in_some p.freed.items b ≡ true → in_some (reach old.root old.contents) b ≡ true
  pub next : (b : ℕ) → is_kept (planned_root old.root p) (once_stored p.contents) b
      ≡ ((is_kept old.root old.contents b && not (in_some p.freed.items b)) || in_some (places p) b)

-- A plan leads from these lists to those after a command, and has its reply: it writes into blocks that the root does
-- not reach, no two parts of it into the same; every part has a place of its size, the lowest that there is in its
-- turn; the blocks that the next root no longer reaches are given back; and the next root and its lists keep all rules.
pub record IsPlanned (old : Rooted) (command : Command) (moment : ℕ) (p : Plan) : Type 0 where
  pub next : IsNext old.contents command moment p.bodies.items p.contents
  pub reply : (image : List ℕ) → p.reply ≡ reply_to (state_in image old.contents) command moment
  pub in_turn : TakesInTurn old command moment p
  pub free : AreBeside (is_kept old.root old.contents) (places p)
  pub apart : AreApart (places p)
  pub inside : AreInside old.size (places p)
  pub catalogue : All (λ page. ¬ IsTouched page.place) p.contents.catalogue
  pub history : All (λ page. ¬ IsTouched page.place) p.contents.history.pages
  pub bodies : AllZip (λ extent bytes. IsSized extent (length bytes)) p.bodies.items (bodies_of_command command)
  pub directory : IsSized p.directory (length (planned_listing p))
  pub listable : AreListable written_format (once_stored p.contents)
  pub whole : IsWhole old.size (planned_root old.root p) (once_stored p.contents)
  pub blocks : TakesAndGives old p

-- All parts that a plan writes are in an image, these bodies among them.
pub record AreWritten (p : Plan) (written : List (List ℕ)) (image : List ℕ) : Type 0 where
  pub bodies : AreBodies image p.bodies.items written
  pub catalogue : All (IsWritten record_format image) p.contents.catalogue
  pub history : All (IsWritten change_format image) p.contents.history.pages
  pub directory : part p.directory (length (planned_listing p)) image ≡ planned_listing p

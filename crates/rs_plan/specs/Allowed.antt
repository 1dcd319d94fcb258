-- The conditions for planning a command: a source accepts it.
use Rattle.std.specs.Prelude.{◌<◌, ◌≤◌, ◌+◌, ◌*◌, ◌/◌, ◌^◌, ◌≡◌, ℕ, List, length, None, IsNone, IsSome}
use Rattle.rs_catalogue.specs.Catalogue.{records_of}
use Rattle.rs_catalogue.specs.Named.{named}
use Rattle.rs_changes.specs.History.{changes_of}
use Rattle.rs_image.specs.declared.contents.Contents.{Contents}
use Rattle.rs_time.specs.Moment.{greatest}
use Rattle.rs_model.specs.Names.{value_of}
use Rattle.rs_model.specs.Step.{passed_by, refusal_of}
use Rattle.rs_model.specs.declared.command.Item.{Item}
use Rattle.rs_model.specs.declared.command.Item.TheVariants as single
use Rattle.rs_model.specs.declared.command.Command.TheVariants.{Group}
use Rattle.rs_image.specs.StateOfImage.{state_in}
use Rattle.rs_record.specs.Limits.{longest_body}
use Rattle.rs_model.specs.State.{most_resources, most_changes}

-- A change at this moment has room in the history, and is later than the last command.
pub record MayChange (c : Contents) (moment : ℕ) : Type 0 where
  pub changes : length (changes_of c.history.pages) < most_changes
  pub later : c.header.last < moment

-- A name may be bound to a body of n bytes.
pub record MayPut (c : Contents) (name : List ℕ) (n moment : ℕ) : Type 0 where
  pub body : n ≤ longest_body
  pub resources : IsNone (value_of name (named (records_of c.catalogue))) → length (records_of c.catalogue) < most_resources
  pub change : MayChange c moment

-- A name that is held may be unbound.
pub record MayDelete (c : Contents) (name : List ℕ) (moment : ℕ) : Type 0 where
  pub held : IsSome (value_of name (named (records_of c.catalogue)))
  pub change : MayChange c moment

-- the number of parts of the history that a publication drops
abbrev pub parts_dropped : Contents → ℕ
parts_dropped c = passed_by c.header.at (changes_of c.history.pages) / c.header.limit

-- the number of changes in these parts
abbrev pub changes_dropped : Contents → ℕ
changes_dropped c = parts_dropped c * c.header.limit

-- The next publication and the first part that it keeps have numbers left, and it comes after the last command.
pub record MayPublish (c : Contents) (moment : ℕ) : Type 0 where
  pub parts : c.header.first + parts_dropped c ≤ greatest
  pub number : c.header.number + 1 < 2 ^ 64
  pub later : c.header.last < moment

-- an item may be done alone: its name may be bound, or is held and may be unbound
abbrev pub MayDoItem : Contents → Item → ℕ → Type 0
MayDoItem c (single.Put name kind bytes) moment = MayPut c name (length bytes) moment
MayDoItem c (single.Delete name) moment = MayDelete c name moment

-- the body of an item, if it has one, is at most as long as a body may be
abbrev pub IsShort : Item → Type 0
IsShort (single.Put name kind bytes) = length bytes ≤ longest_body
IsShort (single.Delete name) = Unit {0}

-- A group of these items may be done at this moment: the model accepts it in the state of the lists with the bodies of
-- some image (which image makes no difference), and it is later than the last command.
pub record MayGroup (c : Contents) (items : List Item) (moment : ℕ) : Type 0 where
  pub image : List ℕ
  pub accepted : refusal_of (state_in image c) (Group items) moment ≡ None
  pub later : c.header.last < moment

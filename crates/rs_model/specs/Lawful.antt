-- The invariant of every state: lawful values, moments that exist, room, and names in order.
use Rattle.std.specs.Prelude.{ℕ, ◌<◌, ◌≤◌, ◌^◌, IsTrue, List, length, IfSome}
use Rattle.std.specs.List.{AllByRecursion}
use Rattle.rs_time.specs.Moment.{IsMoment, greatest}
use Rattle.rs_fixity.specs.Digests.{AreNBytes}
use Rattle.rs_record.specs.Name.{is_name}
use Rattle.rs_record.specs.MediaType.{is_media_type}
use Rattle.rs_record.specs.Base.{is_base}
use Rattle.rs_record.specs.declared.facts.Facts.{Facts}
use Rattle.rs_record.specs.declared.change.Change.{Change}
use Rattle.rs_model.specs.declared.command.Item.{Item}
use Rattle.rs_model.specs.declared.command.Item.TheVariants as single
use Rattle.rs_model.specs.declared.command.Command.{Command}
use Rattle.rs_model.specs.declared.command.Command.TheVariants.{Put, Delete, Publish, Group}
use Rattle.rs_model.specs.declared.value.Entry.{Entry}
use Rattle.rs_model.specs.declared.value.Held.{Held}
use Rattle.rs_model.specs.Names.{is_ordered}
use Rattle.rs_model.specs.State.{Source, most_resources, most_changes}

-- a lawful type, a length of 32 bits, and digests of 16 and 32 bytes
pub record AreFacts (f : Facts) : Type 0 where
  pub kind : IsTrue (is_media_type f.kind)
  pub length : f.length < 2 ^ 32
  pub md5 : AreNBytes 16 f.digests.md5
  pub sha256 : AreNBytes 32 f.digests.sha256

-- a lawful name with its facts and a moment
pub record IsEntry (e : List ℕ × Entry) : Type 0 where
  pub name : IsTrue (is_name e.0)
  pub facts : AreFacts e.1.facts
  pub moment : IsMoment e.1.moment

-- the same of a name that is held
abbrev pub IsHeld : List ℕ × Held → Type 0
IsHeld h = IsEntry (h.0, h.1.entry)

-- a lawful name with a moment, and with facts where it was bound
pub record IsChange (c : Change) : Type 0 where
  pub name : IsTrue (is_name c.name)
  pub facts : IfSome c.facts AreFacts
  pub moment : IsMoment c.moment

-- the invariant of every state
pub record IsLawful (s : Source) : Type 0 where
  pub base : IsTrue (is_base s.base)
  pub low : 2 ≤ s.limit
  pub high : s.limit ≤ 4000
  pub start : IsMoment s.start
  pub last : IsMoment s.last
  pub at : IsMoment s.at
  pub number : s.number < 2 ^ 64
  pub held : AllByRecursion IsHeld s.held
  pub held_order : IsTrue (is_ordered s.held)
  pub held_room : length s.held ≤ most_resources
  pub listed : AllByRecursion IsEntry s.listed
  pub listed_order : IsTrue (is_ordered s.listed)
  pub listed_room : length s.listed ≤ most_resources
  pub changes : AllByRecursion IsChange s.changes
  pub changes_room : length s.changes ≤ most_changes
  pub first : s.first ≤ greatest
  pub begin : IsMoment s.begin

-- an item of a lawful name and type
abbrev pub IsLawfulItem : Item → Type 0
IsLawfulItem (single.Put name kind bytes) = IsTrue (is_name name) × IsTrue (is_media_type kind)
IsLawfulItem (single.Delete name) = IsTrue (is_name name)

-- a command of lawful names and types
abbrev pub IsLawfulCommand : Command → Type 0
IsLawfulCommand (Put name kind bytes) = IsTrue (is_name name) × IsTrue (is_media_type kind)
IsLawfulCommand (Delete name) = IsTrue (is_name name)
IsLawfulCommand Publish = Unit {0}
IsLawfulCommand (Group items) = AllByRecursion IsLawfulItem items

-- a lawful command at a moment
abbrev pub IsLawfulTimed : Command × ℕ → Type 0
IsLawfulTimed timed = IsLawfulCommand timed.0 × IsMoment timed.1

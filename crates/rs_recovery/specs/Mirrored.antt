-- A destination that asks the sources of several sessions, with stops between them.
use Rattle.std.specs.Prelude.{◌≡◌, ◌⊎◌, ℕ, ◌<◌, ◌≤◌, List, [], ◌∷◌, ◌++◌, length, take, drop, map, codes, Option, Some, is_some, IsTrue}
use Rattle.std.specs.List.{AllByRecursion}
use Rattle.rs_record.specs.declared.change.Change.{Change}
use Rattle.rs_model.specs.State.{Source, start_of, entries}
use Rattle.rs_model.specs.Step.{step, state_after, fold_of, mirror_of}
use Rattle.rs_model.specs.Lawful.{IsLawful, IsLawfulTimed}
use Rattle.rs_model.specs.declared.command.Command.{Command}
use Rattle.rs_caps.specs.Answer.{answer}
use Rattle.rs_caps.specs.Destination.{part_paths}
use Rattle.rs_caps.specs.Gather.{gather_resources, gather_changes, listed_entry}
use Rattle.rs_caps.specs.Readings.{ListedResource, Document}
use Rattle.rs_caps.specs.Reads.{reads}
use Rattle.rs_recovery.specs.Sessions.{Session, asked, AreSessions, commands_left}
use Rattle.rs_recovery.specs.Served.{Asking, HasServed, IsNoLater, IsPrefixOf, CommandsStand}

-- every command of these sessions has a lawful name, a lawful type and a moment
abbrev pub AreLawfulSessions : List Session → Type 0
AreLawfulSessions sessions = AllByRecursion (λ x. AllByRecursion IsLawfulTimed (asked x)) sessions

abbrev pub list_head : List ℕ
list_head = codes "/resourcelist.xml"

abbrev pub changes_head : List ℕ
changes_head = codes "/changelist.xml"

-- For every path, the source that the destination asks for it, which could be asked then, and the commands of that
-- source. The same for the last request.
pub record Asked (start : Source) (sessions : List Session) (standing : List ℕ) : Type 0 where
  pub asking : List ℕ → Asking
  pub behind : List ℕ → List (Command × ℕ)
  pub served : (path : List ℕ) → HasServed start sessions standing (asking path) (behind path)
  pub last : Asking
  pub behind_last : List (Command × ℕ)
  pub last_served : HasServed start sessions standing last behind_last

-- the answer at a path, from the source that is asked for it
abbrev pub answered_by : (List ℕ → Asking) → List ℕ → Option (List ℕ)
answered_by asking path = answer (asking path).state path

-- The destination asks for a part no earlier than for its head, and gets an answer.
pub record IsAskedPart (asking : List ℕ → Asking) (head path : List ℕ) : Type 0 where
  pub after_head : IsNoLater (asking head) (asking path)
  pub answered : IsTrue (is_some (answered_by asking path))

-- This holds for all parts that a head names when it is asked for.
abbrev pub OfParts : (List ℕ → Asking) → List ℕ → (List ℕ → Type 0) → Type 0
OfParts asking head IsPart =
    (text : List ℕ) (document : Document) → answered_by asking head ≡ Some text → reads text ≡ Some document
    → AllByRecursion IsPart (part_paths document)

-- the data that a destination gathers: the moment of the Resource List and the listed resources, the begin of the
-- Change List and its changes
pub record Gathered : Type 0 where
  pub at : ℕ
  pub listed : List ListedResource
  pub from : ℕ
  pub changes : List Change

-- Both lists are readable: these answers, each at its path, give the gathered data.
pub record HasGathered (answers : List ℕ → Option (List ℕ)) (gathered : Gathered) : Type 0 where
  pub resources : gather_resources answers ≡ Some (gathered.at, gathered.listed)
  pub changes : gather_changes answers ≡ Some (gathered.from, gathered.changes)

-- No change between the two gathered lists is missing: the Resource List's moment is not before the begin of the Change
-- List.
abbrev pub HaveNoGap : (List ℕ → Asking) → Type 0
HaveNoGap asking = (gathered : Gathered) → HasGathered (answered_by asking) gathered → gathered.from ≤ gathered.at

-- A destination asks for the head and the parts of the Resource List, and for those of the Change List, with the parts
-- in any order. It asks for the Change List's head no earlier than for the other head, and for no document of the
-- Change List after the last request.
pub record AsksBoth (asking : List ℕ → Asking) (last : Asking) : Type 0 where
  pub resources : OfParts asking list_head (IsAskedPart asking list_head)
  pub order : IsNoLater (asking list_head) (asking changes_head)
  pub changes : OfParts asking changes_head (IsAskedPart asking changes_head)
  pub head_by_last : IsNoLater (asking changes_head) last
  pub parts_by_last : OfParts asking changes_head (λ path. IsNoLater (asking path) last)
  pub no_gap : HaveNoGap asking

-- the changes that an accepted command makes in a state: one for a put or a delete, one for each item of a group
abbrev pub changes_made : Source → Command × ℕ → List Change
changes_made s c = drop (length s.changes) (state_after s (step s c.0 c.1)).changes

-- The first changes of the next command, which comes after these commands in `whole`. They are not all its changes. So
-- if there is at least one, that command is a group, since no other command makes more than one change.
pub record AreFirstOfNext (start : Source) (commands whole : List (Command × ℕ)) (made : List Change) : Type 0 where
  pub next : Command × ℕ
  pub comes : IsPrefixOf (commands ++ next ∷ []) whole
  pub count : ℕ
  pub fewer : count < length (changes_made (fold_of start commands) next)
  pub first : made ≡ take count (changes_made (fold_of start commands) next)

-- no changes, or the first changes of the next command
abbrev pub AreOfNext : Source → List (Command × ℕ) → List (Command × ℕ) → List Change → Type 0
AreOfNext start commands whole made = (made ≡ []) ⊎ AreFirstOfNext start commands whole made

-- These commands are the first surviving ones: at least those of the source that the destination asked for the Change
-- List's head, and at most those of the source at the last request.
pub record StandBetween {start : Source} {sessions : List Session} {standing : List ℕ}
    (both : Asked start sessions standing) (commands : List (Command × ℕ)) : Type 0 where
  pub after_head : IsPrefixOf (both.behind changes_head) commands
  pub by_last : IsPrefixOf commands both.behind_last
  pub survive : IsPrefixOf commands (commands_left sessions standing)

-- The destination gathered both lists. Mirrored together they equal the resources held after commands between the
-- requests (`stand`). If the next command is a group, the mirror may also have the group's first changes (`made`).
pub record IsMirrored (start : Source) (sessions : List Session) (standing : List ℕ) (both : Asked start sessions standing) : Type 0 where
  pub gathered : Gathered
  pub commands : List (Command × ℕ)
  pub made : List Change
  pub has : HasGathered (answered_by both.asking) gathered
  pub stand : StandBetween both commands
  pub next : AreOfNext start commands both.behind_last made
  pub mirrored : mirror_of (map listed_entry gathered.listed) gathered.at gathered.changes
      ≡ mirror_of (entries (fold_of start commands).held) start.start made

-- Over any number of sessions, whatever the stops, commands survive so that a destination that asks for both lists
-- mirrors resources that were held. The first session began with the state that a formatting and some commands made: no
-- commands if the source was formatted, and those of the copied source if it is a copy.
abbrev pub SessionsAreMirrored : Type 0
SessionsAreMirrored =
    (base : List ℕ) (limit moment : ℕ) (before : List (Command × ℕ)) (sessions : List Session)
    → let start = fold_of (start_of base limit moment) before in
    IsLawful (start_of base limit moment) → AllByRecursion IsLawfulTimed before → AreLawfulSessions sessions
    → AreSessions start sessions
    → (standing : List ℕ) × CommandsStand start sessions standing
    × ((both : Asked start sessions standing) → AsksBoth both.asking both.last → IsMirrored start sessions standing both)

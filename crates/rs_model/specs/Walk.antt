-- Walks: the possible events of a source while its documents are read, and the changes recorded on the way.
use Rattle.std.specs.Prelude.{ℕ, suc, ◌<◌, ◌≤◌, ◌≡◌, ◌⊎◌, if◌then◌else◌, List, [], ◌∷◌, ◌++◌, length, take, drop}
use Rattle.std.specs.List.{AllByRecursion}
use Rattle.rs_record.specs.declared.change.Change.{Change}
use Rattle.rs_model.specs.declared.command.Command.{Command}
use Rattle.rs_model.specs.declared.event.Event.{Event}
use Rattle.rs_model.specs.declared.event.Event.TheVariants.{Tried, Refused, Stopped, Idle, Fetch}
use Rattle.rs_model.specs.declared.value.Entry.{Entry}
use Rattle.rs_model.specs.Names.{Names}
use Rattle.rs_model.specs.State.{Source}
use Rattle.rs_model.specs.Step.{step, state_after, mirror_of}
use Rattle.rs_model.specs.Lawful.{IsLawfulTimed}

-- The state after an event. A tried command makes its step, or is refused. So does a command within which the source
-- stopped, if the command was applied. All other events leave the state as it is.
abbrev pub after_event : Source → Event → Source
after_event s (Tried command now) = state_after s (step s command now)
after_event s (Refused command) = s
after_event s (Stopped command now stands) = if stands then state_after s (step s command now) else s
after_event s Idle = s
after_event s Fetch = s

-- the state after these events in their order
abbrev pub walk_of : Source → List Event → Source
walk_of s [] = s
walk_of s (event ∷ events) = walk_of (after_event s event) events

-- the state after the first i events
abbrev pub state_at : Source → List Event → ℕ → Source
state_at s events i = walk_of s (take i events)

-- the commands that an event does, with their moments: one, or none
abbrev pub done_by : Event → List (Command × ℕ)
done_by (Tried command now) = (command, now) ∷ []
done_by (Refused command) = []
done_by (Stopped command now stands) = if stands then (command, now) ∷ [] else []
done_by Idle = []
done_by Fetch = []

-- the commands that these events do, in their order
abbrev pub commands_of : List Event → List (Command × ℕ)
commands_of [] = []
commands_of (event ∷ events) = done_by event ++ commands_of events

-- the commands that an event does are lawful
abbrev pub IsLawfulEvent : Event → Type 0
IsLawfulEvent event = AllByRecursion IsLawfulTimed (done_by event)

-- the changes that an event records: those after it that were not there before it
abbrev pub recorded_by : Source → Event → List Change
recorded_by s event = drop (length s.changes) (after_event s event).changes

-- all changes that a walk records, event by event
abbrev pub recorded : Source → List Event → List Change
recorded s [] = []
recorded s (event ∷ events) = recorded_by s event ++ recorded (after_event s event) events

-- the number of changes recorded by the first i events
abbrev pub count_at : Source → List Event → ℕ → ℕ
count_at s events i = length (recorded s (take i events))

-- the catalogue after n changes: the result of the first n recorded changes from the empty map at the start
abbrev pub catalogue : Source → List Event → ℕ → Names Entry
catalogue s events n = mirror_of [] s.start (take n (recorded s events))

-- A point of a walk between event `first` and event `last` at which n changes are reached: n are recorded by then; or
-- the next event, a group, records the n-th and more.
pub record IsPassed (s : Source) (events : List Event) (first last n : ℕ) : Type 0 where
  pub point : ℕ
  pub after_first : first ≤ point
  pub by_last : point ≤ last
  pub reached : count_at s events point ≤ n
  pub passed : (count_at s events point ≡ n) ⊎ ((point < last) × (n < count_at s events (suc point)))

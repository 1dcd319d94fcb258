-- Consequences of the definitions of a source.
use Rattle.std.specs.Prelude.{◌≡◌, ◌≢◌, ℕ, ◌+◌, ◌≤◌, List, [], ◌∷◌, ◌++◌, length, take, Some, None, Result, Ok, Err, IfOk, IsTrue, true, false}
use Rattle.std.specs.List.{AllByRecursion}
use Rattle.rs_time.specs.Moment.{IsMoment}
use Rattle.rs_record.specs.Base.{is_base}
use Rattle.rs_record.specs.declared.change.Change.{Change}
use Rattle.rs_model.specs.State.{Source, start_of}
use Rattle.rs_model.specs.Step.{step, state_after, fold_of, mirror_of, is_out_of_parts, is_bad_group, refusal_of, moment_at, after_items}
use Rattle.rs_model.specs.LaterChanges.{KeepsChanges}
use Rattle.rs_model.specs.Regular.{IsRegular, IsTimely}
use Rattle.rs_model.specs.Lawful.{IsLawful, IsLawfulCommand, IsLawfulTimed}
use Rattle.rs_model.specs.Names.{Names, value_of, bind, unbind, is_ordered}
use Rattle.rs_model.specs.declared.command.Item.{Item}
use Rattle.rs_model.specs.declared.command.Item.TheVariants as single
use Rattle.rs_model.specs.declared.command.Command.{Command}
use Rattle.rs_model.specs.declared.command.Command.TheVariants.{Put, Delete, Group}
use Rattle.rs_model.specs.declared.command.Reply.{Reply}
use Rattle.rs_model.specs.declared.command.Reply.TheVariants.{Grouped}
use Rattle.rs_model.specs.declared.command.Refusal.{Refusal}
use Rattle.rs_model.specs.declared.command.Refusal.TheVariants.{BadGroup}
use Rattle.rs_model.specs.declared.value.Entry.{Entry}

-- An accepted command leaves a regular state regular, ..
abbrev pub StepIsRegular : Type 0
StepIsRegular = (s : Source) (command : Command) (now : ℕ) → IsRegular s
    → IfOk (step s command now) (λ next. IsRegular next.0)

-- .. and a timely one timely.
abbrev pub StepIsTimely : Type 0
StepIsTimely = (s : Source) (command : Command) (now : ℕ) → IsRegular s → IsTimely s
    → IfOk (step s command now) (λ next. IsTimely next.0)

-- So does any run of commands.
abbrev pub FoldIsRegular : Type 0
FoldIsRegular = (s : Source) (commands : List (Command × ℕ)) → IsRegular s → IsRegular (fold_of s commands)

abbrev pub FoldIsTimely : Type 0
FoldIsTimely = (s : Source) (commands : List (Command × ℕ)) → IsRegular s → IsTimely s → IsTimely (fold_of s commands)

-- After any commands, the changes are the earlier ones and then others, without the dropped parts.
abbrev pub ChangesAreKept : Type 0
ChangesAreKept = (s : Source) (commands : List (Command × ℕ)) → (more : List Change) × KeepsChanges s more (fold_of s commands)

-- In a regular state whose publication has a lawful moment, the next publication has a number for its first part.
abbrev pub PartsDoNotRunOut : Type 0
PartsDoNotRunOut = (s : Source) → IsRegular s → IsMoment s.at → is_out_of_parts s ≡ false

-- Names in order stay so where one is bound, ..
abbrev pub OrderedWhenBound : Type 0 → Type 0
OrderedWhenBound V = (name : List ℕ) (value : V) (m : Names V) → IsTrue (is_ordered m) → IsTrue (is_ordered (bind name value m))

-- .. where one is unbound ..
abbrev pub OrderedWhenUnbound : Type 0 → Type 0
OrderedWhenUnbound V = (name : List ℕ) (m : Names V) → IsTrue (is_ordered m) → IsTrue (is_ordered (unbind name m))

-- .. and where changes are followed.
abbrev pub OrderedWhenMirrored : Type 0
OrderedWhenMirrored = (listed : Names Entry) (at : ℕ) (changes : List Change) → IsTrue (is_ordered listed)
    → IsTrue (is_ordered (mirror_of listed at changes))

-- A name that is bound has its value, ..
abbrev pub BoundIsFound : Type 0 → Type 0
BoundIsFound V = (name : List ℕ) (value : V) (m : Names V) → value_of name (bind name value m) ≡ Some value

-- .. and the others have theirs.
abbrev pub OthersStayBound : Type 0 → Type 0
OthersStayBound V = (name other : List ℕ) (value : V) (m : Names V) → name ≢ other
    → value_of other (bind name value m) ≡ value_of other m

-- A name that is unbound has none, ..
abbrev pub UnboundIsGone : Type 0 → Type 0
UnboundIsGone V = (name : List ℕ) (m : Names V) → IsTrue (is_ordered m) → value_of name (unbind name m) ≡ None

-- .. and the others have theirs.
abbrev pub OthersStayUnbound : Type 0 → Type 0
OthersStayUnbound V = (name other : List ℕ) (m : Names V) → name ≢ other → IsTrue (is_ordered m)
    → value_of other (unbind name m) ≡ value_of other m

-- A source formatted with a lawful base, limit and moment is lawful.
abbrev pub StartIsLawful : Type 0
StartIsLawful = (base : List ℕ) (limit moment : ℕ) → IsTrue (is_base base) → 2 ≤ limit → limit ≤ 4000 → IsMoment moment
    → IsLawful (start_of base limit moment)

-- A lawful command keeps a state lawful, accepted or not.
abbrev pub StepIsLawful : Type 0
StepIsLawful = (s : Source) (command : Command) (now : ℕ) → IsLawful s → IsLawfulCommand command → IsMoment now
    → IsLawful (state_after s (step s command now))

-- So does any run of them.
abbrev pub FoldIsLawful : Type 0
FoldIsLawful = (s : Source) (commands : List (Command × ℕ)) → IsLawful s → AllByRecursion IsLawfulTimed commands
    → IsLawful (fold_of s commands)

-- the command that an item would be alone
abbrev pub command_of : Item → Command
command_of (single.Put name kind bytes) = Put name kind bytes
command_of (single.Delete name) = Delete name

-- the answer to a group of n items at this moment, by the result of its items in turn
abbrev pub grouped_as : ℕ → ℕ → Result Source Refusal → Result (Source × Reply) Refusal
grouped_as n moment (Ok next) = Ok (next, Grouped n moment)
grouped_as n moment (Err refusal) = Err refusal

-- another step after an accepted command; a refusal stays
abbrev pub after_step : (Source → Result Source Refusal) → Result (Source × Reply) Refusal → Result Source Refusal
after_step then (Ok next) = then next.0
after_step then (Err refusal) = Err refusal

-- the items as commands in turn, all at `now`, until one is refused
abbrev pub stepped_in_turn : Source → List Item → ℕ → Result Source Refusal
stepped_in_turn s [] now = Ok s
stepped_in_turn s (item ∷ items) now = after_step (λ t. stepped_in_turn t items now) (step s (command_of item) now)

-- A group of 1 to 16 items has the effect of its items as commands in turn, all at the same moment. It is refused as
-- the first refused item is.
abbrev pub GroupsStepInTurn : Type 0
GroupsStepInTurn = (s : Source) (items : List Item) (now : ℕ) → is_bad_group items ≡ false
    → step s (Group items) now ≡ grouped_as (length items) (moment_at s now) (stepped_in_turn s items now)

-- Any other is refused as no group.
abbrev pub BadGroupsAreRefused : Type 0
BadGroupsAreRefused = (s : Source) (items : List Item) (now : ℕ) → is_bad_group items ≡ true → step s (Group items) now ≡ Err BadGroup

-- The first items of an accepted group are an accepted group, ..
abbrev pub FrontsAreAccepted : Type 0
FrontsAreAccepted = (s : Source) (items : List Item) (now k : ℕ) → refusal_of s (Group items) now ≡ None
    → 1 ≤ k → k ≤ length items → refusal_of s (Group (take k items)) now ≡ None

-- .. and make the first of its changes.
abbrev pub FrontsMakeTheFirst : Type 0
FrontsMakeTheFirst = (s : Source) (items : List Item) (now k : ℕ)
    → (after_items s (take k items) now).changes ≡ take (length s.changes + k) (after_items s items now).changes

-- Every item makes one change.
abbrev pub ItemsMakeChanges : Type 0
ItemsMakeChanges = (s : Source) (items : List Item) (now : ℕ)
    → (made : List Change) × (length made ≡ length items) × ((after_items s items now).changes ≡ s.changes ++ made)

-- A group has the same refusal and the same effect if it comes at the moment at which it is accepted.
abbrev pub GroupsComeAtTheirMoment : Type 0
GroupsComeAtTheirMoment = (s : Source) (items : List Item) (now : ℕ)
    → (refusal_of s (Group items) (moment_at s now) ≡ refusal_of s (Group items) now)
    × (after_items s items (moment_at s now) ≡ after_items s items now)

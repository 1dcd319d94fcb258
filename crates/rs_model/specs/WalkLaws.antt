-- Consequences of the definition of a walk.
use Rattle.std.specs.Prelude.{◌≡◌, ℕ, ◌≤◌, ◌*◌, List, length, take, drop}
use Rattle.std.specs.List.{AllByRecursion}
use Rattle.rs_model.specs.declared.event.Event.{Event}
use Rattle.rs_model.specs.State.{Source, start_of, entries}
use Rattle.rs_model.specs.Step.{fold_of, mirror_of}
use Rattle.rs_model.specs.LaterChanges.{KeepsChanges}
use Rattle.rs_model.specs.Lawful.{IsLawful}
use Rattle.rs_model.specs.Walk.{walk_of, state_at, commands_of, IsLawfulEvent, recorded, count_at, catalogue, IsPassed}

-- The state after a walk is the one after its done commands, in their order.
abbrev pub WalksAreFolds : Type 0
WalksAreFolds = (s : Source) (events : List Event) → walk_of s events ≡ fold_of s (commands_of events)

-- Lawful events leave a lawful state lawful.
abbrev pub WalksStayLawful : Type 0
WalksStayLawful =
    (s : Source) (events : List Event) → IsLawful s → AllByRecursion IsLawfulEvent events → IsLawful (walk_of s events)

-- After a walk the changes are the earlier ones and then the recorded ones, without the dropped parts.
abbrev pub ChangesAreRecorded : Type 0
ChangesAreRecorded = (s : Source) (events : List Event) → KeepsChanges s (recorded s events) (walk_of s events)

-- The resources held after a walk from a formatting are the catalogue after all changes that it recorded, ..
abbrev pub HeldIsCatalogued : Type 0
HeldIsCatalogued =
    (base : List ℕ) (limit moment : ℕ) (events : List Event)
    → let s = start_of base limit moment in
    entries (walk_of s events).held ≡ catalogue s events (length (recorded s events))

-- .. and those held after its first i events are the one after the changes recorded by then.
abbrev pub HeldThenIsCatalogued : Type 0
HeldThenIsCatalogued =
    (base : List ℕ) (limit moment : ℕ) (events : List Event) (i : ℕ)
    → let s = start_of base limit moment in
    entries (state_at s events i).held ≡ catalogue s events (count_at s events i)

-- The latest list after i events, followed by the recorded changes after its moment up to number n, makes the catalogue
-- after n changes, where n is at least the number recorded by then.
abbrev pub ListIsFollowed : Type 0
ListIsFollowed =
    (base : List ℕ) (limit moment : ℕ) (events : List Event) (i n : ℕ)
    → let s = start_of base limit moment in
    count_at s events i ≤ n
    → mirror_of (state_at s events i).listed (state_at s events i).at (take n (recorded s events)) ≡ catalogue s events n

-- So it does without the parts that were dropped by any point of the walk, if the history kept there begins no later
-- than the list's moment.
abbrev pub KeptListIsFollowed : Type 0
KeptListIsFollowed =
    (base : List ℕ) (limit moment : ℕ) (events : List Event) (i j n : ℕ)
    → let s = start_of base limit moment in
    let list = state_at s events i in
    let kept = state_at s events j in
    count_at s events i ≤ n → kept.begin ≤ list.at
    → mirror_of list.listed list.at (drop (kept.first * limit) (take n (recorded s events))) ≡ catalogue s events n

-- Between two points of a walk, every number of changes between theirs is passed, perhaps within a group.
abbrev pub EachCountIsPassed : Type 0
EachCountIsPassed =
    (s : Source) (events : List Event) (first last n : ℕ) → first ≤ last
    → count_at s events first ≤ n → n ≤ count_at s events last → IsPassed s events first last n

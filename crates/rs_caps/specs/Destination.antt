-- The mirror that a destination makes of documents that it fetches one by one, amid commands, refusals and stops.
use Rattle.std.specs.Prelude.{◌≡◌, ℕ, ◌≤◌, List, [], map, codes, Option, Some, is_some, IsTrue}
use Rattle.std.specs.List.{AllByRecursion}
use Rattle.rs_record.specs.declared.change.Change.{Change}
use Rattle.rs_model.specs.declared.event.Event.{Event}
use Rattle.rs_model.specs.declared.value.Entry.{Entry}
use Rattle.rs_model.specs.Names.{Names}
use Rattle.rs_model.specs.State.{Source, start_of, entries}
use Rattle.rs_model.specs.Step.{mirror_of}
use Rattle.rs_model.specs.Lawful.{IsLawful}
use Rattle.rs_model.specs.Walk.{state_at, IsLawfulEvent, count_at, catalogue, IsPassed}
use Rattle.rs_lists.specs.declared.doc.Doc.TheVariants.{ResourcePart, ChangePart}
use Rattle.rs_caps.specs.Paths.{doc_of}
use Rattle.rs_caps.specs.Readings.{ListedResource, Document}
use Rattle.rs_caps.specs.Readings.Document.{ResourceList, ChangeList, ResourceListIndex, ChangeListIndex}
use Rattle.rs_caps.specs.Reads.{reads}
use Rattle.rs_caps.specs.Answer.{answer}
use Rattle.rs_caps.specs.Gather.{gather_resources, gather_changes, listed_entry}

-- the paths of the parts that a document names, if it is an index
abbrev pub part_paths : Document → List (List ℕ)
part_paths (ResourceList at children) = []
part_paths (ChangeList start until children) = []
part_paths (ResourceListIndex at parts) = map (λ p. p.path) parts
part_paths (ChangeListIndex start until parts) = map (λ p. p.path) parts

-- the answer at a path, which is fetched after a number of events of its own
abbrev pub fetched_at : Source → List Event → (List ℕ → ℕ) → List ℕ → Option (List ℕ)
fetched_at s events when path = answer (state_at s events (when path)) path

-- A part is fetched with its head or later, after at most `last` events, and gets an answer.
pub record IsFetchedPart (s : Source) (events : List Event) (when : List ℕ → ℕ) (head last : ℕ) (path : List ℕ) : Type 0 where
  pub after_head : head ≤ when path
  pub by_last : when path ≤ last
  pub answered : IsTrue (is_some (fetched_at s events when path))

-- A head is fetched, and so are all parts that it then names, in any order.
pub record IsFetched (s : Source) (events : List Event) (when : List ℕ → ℕ) (last : ℕ) (head : List ℕ) : Type 0 where
  pub by_last : when head ≤ last
  pub parts : (text : List ℕ) (document : Document) → fetched_at s events when head ≡ Some text → reads text ≡ Some document
      → AllByRecursion (IsFetchedPart s events when (when head) last) (part_paths document)

-- No change between the two gathered lists is missing: the Resource List's moment is not before the begin of the Change
-- List. (It may be before it where publications between the two fetches drop changes.)
abbrev pub HaveNoGap : Source → List Event → (List ℕ → ℕ) → Type 0
HaveNoGap s events when =
    (at start : ℕ) (listed : List ListedResource) (changes : List Change)
    → gather_resources (fetched_at s events when) ≡ Some (at, listed)
    → gather_changes (fetched_at s events when) ≡ Some (start, changes) → start ≤ at

-- A destination fetches the Resource List's head and parts, and the Change List's: its head with the other head or
-- later.
pub record IsFollowed (s : Source) (events : List Event) (when : List ℕ → ℕ) (done last : ℕ) : Type 0 where
  pub resources : IsFetched s events when done (codes "/resourcelist.xml")
  pub order : when (codes "/resourcelist.xml") ≤ when (codes "/changelist.xml")
  pub changes : IsFetched s events when last (codes "/changelist.xml")
  pub no_gap : HaveNoGap s events when

-- Both lists read, and the one mirrored with the other is the catalogue after n changes: at least those recorded when
-- the Change List's head was fetched, and at most those when the last of its documents was.
pub record Mirrors (s : Source) (events : List Event) (when : List ℕ → ℕ) (last : ℕ) : Type 0 where
  pub at : ℕ
  pub listed : List ListedResource
  pub start : ℕ
  pub changes : List Change
  pub n : ℕ
  pub resources_gathered : gather_resources (fetched_at s events when) ≡ Some (at, listed)
  pub changes_gathered : gather_changes (fetched_at s events when) ≡ Some (start, changes)
  pub low : count_at s events (when (codes "/changelist.xml")) ≤ n
  pub high : n ≤ count_at s events last
  pub mirrored : mirror_of (map listed_entry listed) at changes ≡ catalogue s events n

-- With any commands, refusals and stops between its fetches, a destination that follows both lists mirrors a catalogue.
abbrev pub DestinationMirrors : Type 0
DestinationMirrors =
    (base : List ℕ) (limit moment : ℕ) (events : List Event) (when : List ℕ → ℕ) (done last : ℕ)
    → let s = start_of base limit moment in
    IsLawful s → AllByRecursion IsLawfulEvent events → IsFollowed s events when done last → Mirrors s events when last

-- A map is the resources held at a point of a walk, from the fetch of the Change List's head to the fetch of the last
-- of its documents. Where the next event there is a group, the map may be these resources followed by the group's first
-- changes. `passed`: the point, and the number of changes that the map is made of; `mirrored`: the map is the result of
-- these changes. `held`: where the number is that of the point, the map is the resources held then.
pub record WasHeld (s : Source) (events : List Event) (when : List ℕ → ℕ) (last : ℕ) (mirror : Names Entry) : Type 0 where
  pub n : ℕ
  pub passed : IsPassed s events (when (codes "/changelist.xml")) last n
  pub mirrored : mirror ≡ catalogue s events n
  pub held : count_at s events passed.point ≡ n → mirror ≡ entries (state_at s events passed.point).held

-- The gathered lists make the map of the resources held: all names with their facts and moments.
abbrev pub MirrorWasHeld : Type 0
MirrorWasHeld =
    (base : List ℕ) (limit moment : ℕ) (events : List Event) (when : List ℕ → ℕ) (done last : ℕ)
    (at start : ℕ) (listed : List ListedResource) (changes : List Change)
    → let s = start_of base limit moment in
    IsLawful s → AllByRecursion IsLawfulEvent events → IsFollowed s events when done last
    → gather_resources (fetched_at s events when) ≡ Some (at, listed)
    → gather_changes (fetched_at s events when) ≡ Some (start, changes)
    → WasHeld s events when last (mirror_of (map listed_entry listed) at changes)

-- In any walk two answers at the path of one part of the Resource List are equal.
abbrev pub FetchedListedPartsStay : Type 0
FetchedListedPartsStay =
    (s : Source) (events : List Event) (i j : ℕ) (path x y : List ℕ) (publication k : ℕ)
    → doc_of path ≡ Some (ResourcePart publication k)
    → answer (state_at s events i) path ≡ Some x → answer (state_at s events j) path ≡ Some y → x ≡ y

-- Two answers at the path of one part of the Change List are equal, where the first has an `until`.
abbrev pub FetchedClosedPartsStay : Type 0
FetchedClosedPartsStay =
    (s : Source) (events : List Event) (i j : ℕ) (path x y : List ℕ) (k start until : ℕ) (children : List Change)
    → IsLawful s → AllByRecursion IsLawfulEvent events → i ≤ j
    → doc_of path ≡ Some (ChangePart k) → reads x ≡ Some (ChangeList start (Some until) children)
    → answer (state_at s events i) path ≡ Some x → answer (state_at s events j) path ≡ Some y → x ≡ y

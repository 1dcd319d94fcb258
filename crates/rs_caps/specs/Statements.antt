-- The laws of the served documents, as statements.
use Rattle.std.specs.Prelude.{◌≡◌, ℕ, ◌+◌, ◌<◌, ◌≤◌, List, ◌++◌, map, Some}
use Rattle.std.specs.List.{AllByRecursion}
use Rattle.rs_record.specs.declared.change.Change.{Change}
use Rattle.rs_model.specs.declared.command.Command.{Command}
use Rattle.rs_model.specs.Regular.{IsRegular}
use Rattle.rs_model.specs.State.{Source, entries}
use Rattle.rs_model.specs.Step.{fold_of, mirror_of}
use Rattle.rs_lists.specs.declared.doc.Doc.{Doc}
use Rattle.rs_lists.specs.declared.doc.Doc.TheVariants.{ResourcePart, ChangePart}
use Rattle.rs_lists.specs.Chunks.{part_at}
use Rattle.rs_lists.specs.Shown.{Shown}
use Rattle.rs_lists.specs.Text.{list_text, from_of}
use Rattle.rs_caps.specs.Paths.{doc_of}
use Rattle.rs_model.specs.Listed.{record_of, entry_of as entry_of_record}
use Rattle.rs_caps.specs.Shows.{shown_of}
use Rattle.rs_caps.specs.Readings.{ListedResource}
use Rattle.rs_caps.specs.Readings.Document.{ChangeList}
use Rattle.rs_caps.specs.Reads.{reads}
use Rattle.rs_caps.specs.Answer.{answer, listed_of, reading_of}
use Rattle.rs_caps.specs.Gather.{gather_resources, gather_changes, listed_entry}
use Rattle.rs_caps.specs.DocumentTexts.{document_text}
use Rattle.rs_model.specs.Lawful.{IsLawful, IsLawfulTimed}

-- The answer at the path of an existing list, part or index is its text.
abbrev pub TextsAreAnswered : Type 0
TextsAreAnswered =
    (s : Source) (path text : List ℕ) (doc : Doc) → doc_of path ≡ Some doc → list_text (shown_of s) doc ≡ Some text
    → answer s path ≡ Some text

-- The text reads as exactly that document.
abbrev pub TextsRead : Type 0
TextsRead =
    (s : Source) (text : List ℕ) (doc : Doc) → IsLawful s → list_text (shown_of s) doc ≡ Some text → reads text ≡ reading_of (shown_of s) doc

-- The Resource List gives the whole latest publication.
abbrev pub ResourcesAreGathered : Source → Type 0
ResourcesAreGathered s = gather_resources (answer s) ≡ Some (s.at, map listed_of (map record_of s.listed))

-- The Change List gives the moment at which the kept history begins, and all its changes.
abbrev pub ChangesAreGathered : Source → Type 0
ChangesAreGathered s = gather_changes (answer s) ≡ Some (s.begin, s.changes)

-- The Resource List mirrored with the Change List gives the held resources.
abbrev pub ListsMirror : Source → Type 0
ListsMirror s =
    (at start : ℕ) (listed : List ListedResource) (changes : List Change)
    → gather_resources (answer s) ≡ Some (at, listed) → gather_changes (answer s) ≡ Some (start, changes)
    → mirror_of (map listed_entry listed) at changes ≡ entries s.held

-- With any commands in between, two answers at the path of one part of the Resource List are equal.
abbrev pub ListedPartsStay : Type 0
ListedPartsStay =
    (s : Source) (earlier later : List (Command × ℕ)) (path x y : List ℕ) (publication k : ℕ)
    → doc_of path ≡ Some (ResourcePart publication k)
    → answer (fold_of s earlier) path ≡ Some x → answer (fold_of s (earlier ++ later)) path ≡ Some y → x ≡ y

-- Two answers at the path of one part of the Change List are equal, once the first has an `until`.
abbrev pub ClosedPartsStay : Type 0
ClosedPartsStay =
    (s : Source) (earlier later : List (Command × ℕ)) (path x y : List ℕ) (k start until : ℕ) (children : List Change)
    → IsLawful s → AllByRecursion IsLawfulTimed earlier
    → doc_of path ≡ Some (ChangePart k) → reads x ≡ Some (ChangeList start (Some until) children)
    → answer (fold_of s earlier) path ≡ Some x → answer (fold_of s (earlier ++ later)) path ≡ Some y → x ≡ y

-- a change after the first moment and not after the second
abbrev pub IsChangeBetween : ℕ → ℕ → Change → Type 0
IsChangeBetween low high c = (low < c.moment) × (c.moment ≤ high)

-- In a regular state the changes of a part of the Change List are after its `from`, and not after the
-- next part's.
abbrev pub PartsAreBounded : Type 0
PartsAreBounded =
    (s : Source) (k : ℕ) → IsRegular s
    → AllByRecursion (IsChangeBetween (from_of (shown_of s) k) (from_of (shown_of s) (k + 1))) (part_at k s.limit s.changes)

-- No document shows where the blocks of a body are: every document is the text of the same view with empty extents.
abbrev pub BlocksAreNotShown : Type 0
BlocksAreNotShown =
    (s : Shown) (doc : Doc) → document_text (record s { published = map record_of (map entry_of_record s.published) }) doc ≡ document_text s doc

-- two views that show the same, but for the blocks of the published records
pub record IsShownAlike (s t : Shown) : Type 0 where
  pub base : s.base ≡ t.base
  pub limit : s.limit ≡ t.limit
  pub start : s.start ≡ t.start
  pub number : s.number ≡ t.number
  pub at : s.at ≡ t.at
  pub published : map entry_of_record s.published ≡ map entry_of_record t.published
  pub changes : s.changes ≡ t.changes
  pub first : s.first ≡ t.first
  pub begin : s.begin ≡ t.begin

-- These views have the same documents.
abbrev pub AlikeViewsHaveOneText : Type 0
AlikeViewsHaveOneText = (s t : Shown) (doc : Doc) → IsShownAlike s t → document_text s doc ≡ document_text t doc

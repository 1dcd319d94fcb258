-- The lists that a destination gathers from documents that are fetched at different times.
use Rattle.std.proofs.Common.{◌≡◌, ℕ, suc, zero, ◌+◌, ◌-◌, ◌*◌, ◌<◌, ◌≤◌, List, [], ◌∷◌, length, map, take, drop, refl, sym, ap, ◌∙◌, arith, Option, Some, None, Bool, true, false, cond, nat_le, length-take, length-drop, subst, min}
use Rattle.std.specs.Prelude.{codes, ◌==◌}
use Rattle.std.specs.List.{AllByRecursion}
use Rattle.std.proofs.lemmas.Bool.Decides.{nat_tests}
use Rattle.rs_record.specs.declared.change.Change.{Change}
use Rattle.rs_model.specs.declared.event.Event.{Event}
use Rattle.rs_model.specs.Lawful.{IsLawful}
use Rattle.rs_model.specs.Listed.{record_of}
use Rattle.rs_model.specs.State.{Source, start_of}
use Rattle.rs_model.specs.Walk.{state_at, IsLawfulEvent, recorded, count_at}
use Rattle.rs_lists.specs.Chunks.{part_at}
use Rattle.rs_lists.specs.Shown.{Shown, resource_parts_of, change_parts_of}
use Rattle.rs_lists.specs.Text.{numbers_from, resource_part_path, change_part_path}
use Rattle.rs_caps.proofs.FromBelow.{parts_cover, parts_tight}
use Rattle.rs_caps.specs.Shows.{shown_of}
use Rattle.rs_caps.specs.Readings.{Document}
use Rattle.rs_caps.specs.Readings.Document.{ResourceList, ChangeList, ResourceListIndex, ChangeListIndex}
use Rattle.rs_caps.specs.Answer.{listed_of, resource_entry_of, change_entry_of, resource_head_of, change_head_of}
use Rattle.rs_caps.specs.Gather.{resources_in, changes_in, gathered_changes, gather_resources, gather_changes}
use Rattle.rs_caps.specs.Destination.{part_paths, fetched_at, IsFetchedPart, IsFetched}
use Rattle.rs_caps.proofs.Elements.{all_so, all_both, numbers_below}
use Rattle.rs_caps.proofs.TextsRead.{IsReadable, shown_lawful, parts_few}
use Rattle.rs_caps.proofs.Gathering.{IsPartAt}
use Rattle.rs_caps.proofs.ListsRead.{more_than_one, resource_head_read, resources_from_head, resources_from_parts, change_head_read, changes_from_head, changes_from_parts}
use Rattle.rs_caps.proofs.DroppedParts.{part_dropped}
use Rattle.rs_caps.proofs.Walks.{AreLaws, IsKept, lawful_at, count_between, count_of_all, kept_at, kept_count}
use Rattle.rs_caps.proofs.TimesOfFetches.{later_between, listed_part, changed_part, same_part, same_count}

-- a property of the parts that an index names
unmapped : {A B C : Type 0} (P : C → Type 0) (f : B → C) (g : A → B) (xs : List A) → AllByRecursion P (map f (map g xs)) → AllByRecursion (λ x. P (f (g x))) xs
unmapped P f g [] h = tt
unmapped P f g (x ∷ xs) h = (h.0, unmapped P f g xs h.1)

paths_in_index : (b : Bool) (P : List ℕ → Type 0) (list index : Document) → b ≡ false → AllByRecursion P (part_paths (cond b list index))
    → AllByRecursion P (part_paths index)
paths_in_index true P list index e h = cc
paths_in_index false P list index e h = h

by_first : (b : Bool) (Q : ℕ → Type 0) (first k : ℕ) → (first == k) ≡ b → first ≤ k → Q first → (first < k → Q k) → Q k
by_first true Q first k e a h rest = let is : first ≡ k = grind (arith, nat_tests) in subst Q is h
by_first false Q first k e a h rest = let after : first < k = grind (arith, nat_tests) in rest after

at_number : (Q : ℕ → Type 0) (first n k : ℕ) → AllByRecursion Q (numbers_from first n) → first ≤ k → k < first + n → Q k
at_number Q first zero k h a b = absurd (omega arith)
at_number Q first (suc n) k h a b = by_first (first == k) Q first k refl a h.0 (λ after. at_number Q (first + 1) n k h.1 (omega arith) (omega arith))

-- the Resource List
pub resources_fetched : AreLaws → (s : Source) (events : List Event) (when : List ℕ → ℕ) (done : ℕ) → IsLawful s
    → AllByRecursion IsLawfulEvent events → IsFetched s events when done (codes "/resourcelist.xml")
    → gather_resources (fetched_at s events when)
    ≡ Some ((state_at s events (when (codes "/resourcelist.xml"))).at, map listed_of (map record_of (state_at s events (when (codes "/resourcelist.xml"))).listed))
resources_fetched laws s events when done l all f =
    let i : ℕ = when (codes "/resourcelist.xml") in
    let fetched : List ℕ → Option (List ℕ) = fetched_at s events when in
    let r : Source = state_at s events i in
    let v : Shown = shown_of r in
    let lawful : IsLawful r = lawful_at laws.lawful s events i l all in
    let shown : IsReadable v = shown_lawful r lawful in
    let head = resource_head_read r lawful in
    let count : ℕ = resource_parts_of v in
    let numbers : List ℕ = numbers_from 0 count in
    let few : count < 60000 = parts_few (length v.published) v.limit shown.published_room shown.low shown.high in
    let small : AllByRecursion (λ k. k < 60000) numbers = numbers_below 0 count 60000 (omega arith) in
    let Part : List ℕ → Type 0 = IsFetchedPart s events when i done in
    let Read : ℕ → Type 0 = λ k. IsPartAt resources_in fetched (resource_part_path v.number k) (map listed_of (part_at k v.limit v.published)) in
    let parts : AllByRecursion Part (part_paths (resource_head_of v)) = f.parts head.0 (resource_head_of v) head.1 head.2 in
    let one : (k : ℕ) → (k < 60000) × Part (resource_part_path v.number k) → Read k = λ k h.
    let path : List ℕ = resource_part_path v.number k in
    let below : k < 60000 = h.0 in
    listed_part r (state_at s events (when path)) fetched k (later_between laws.folds s events i (when path) h.1.after_head)
    (lawful_at laws.lawful s events (when path) l all) lawful.number (omega arith) refl h.1.answered in
    let each : nat_le count 1 ≡ false → AllByRecursion Read numbers = λ e.
    all_so (λ k. (k < 60000) × Part (resource_part_path v.number k)) Read one numbers
    (all_both (λ k. k < 60000) (λ k. Part (resource_part_path v.number k)) numbers small
    (unmapped Part (λ p. p.path) (resource_entry_of v) numbers
    (paths_in_index (nat_le count 1) Part (ResourceList v.at (map listed_of v.published)) (ResourceListIndex v.at (map (resource_entry_of v) numbers)) e parts))) in
    resources_from_head r fetched lawful refl ∙ resources_from_parts laws.listed_chunks v fetched (nat_le count 1) shown each

-- The changes gathered of the Change List are all changes up to number n, at least those that its head knew, without
-- the parts that were dropped when the head was fetched.
pub record AreKeptChanges (s : Source) (events : List Event) (when : List ℕ → ℕ) (last : ℕ) : Type 0 where
  pub n : ℕ
  pub low : count_at s events (when (codes "/changelist.xml")) ≤ n
  pub high : n ≤ count_at s events last
  pub gathered : let head = state_at s events (when (codes "/changelist.xml")) in
      gather_changes (fetched_at s events when) ≡ Some (head.begin, drop (head.first * s.limit) (take n (recorded s events)))

-- So where the fetched Change List is one document, and where it is an index.
abbrev AreKeptWhere : Bool → Type 0
AreKeptWhere one =
    AreLaws → (base : List ℕ) (limit moment : ℕ) (events : List Event) (when : List ℕ → ℕ) (last : ℕ)
    → let s = start_of base limit moment in
    IsLawful s → AllByRecursion IsLawfulEvent events → IsFetched s events when last (codes "/changelist.xml")
    → nat_le (change_parts_of (shown_of (state_at s events (when (codes "/changelist.xml"))))) 1 ≡ one
    → AreKeptChanges s events when last

changes_whole : AreKeptWhere true
changes_whole laws base limit moment events when last l all f e =
    let s : Source = start_of base limit moment in
    let i : ℕ = when (codes "/changelist.xml") in
    let fetched : List ℕ → Option (List ℕ) = fetched_at s events when in
    let h : Source = state_at s events i in
    let v : Shown = shown_of h in
    let index : Document = ChangeListIndex v.begin None (map (change_entry_of v) (numbers_from 0 (change_parts_of v))) in
    record {
      n = count_at s events i;
      low = omega arith;
      high = count_between s events i last f.by_last;
      gathered =
          changes_from_head h fetched (lawful_at laws.lawful s events i l all) refl
          ∙ ap (λ b. gathered_changes fetched (cond b (ChangeList v.begin None v.changes) index)) e
          ∙ ap (λ items. Some (h.begin, items)) (kept_at laws.recorded base limit moment events i).changes;
    }

-- A Change List in parts: the changes end where its last part ends.
changes_in_parts : AreKeptWhere false
changes_in_parts laws base limit moment events when last l all f e =
    let s : Source = start_of base limit moment in
    let i : ℕ = when (codes "/changelist.xml") in
    let fetched : List ℕ → Option (List ℕ) = fetched_at s events when in
    let changes : List Change = recorded s events in
    let count_by : ℕ → ℕ = count_at s events in
    let h : Source = state_at s events i in
    let v : Shown = shown_of h in
    let lawful : IsLawful h = lawful_at laws.lawful s events i l all in
    let kept : IsKept changes limit (count_by i) h = kept_at laws.recorded base limit moment events i in
    let kept_by : (j : ℕ) → IsKept changes v.limit (count_by j) (state_at s events j) = λ j.
    subst (λ m. IsKept changes m (count_by j) (state_at s events j)) (sym kept.same_limit) (kept_at laws.recorded base limit moment events j) in
    let head = change_head_read h lawful in
    let count : ℕ = change_parts_of v in
    let numbers : List ℕ = numbers_from 0 count in
    let list : Document = ChangeList v.begin None v.changes in
    let index : Document = ChangeListIndex v.begin None (map (change_entry_of v) numbers) in
    let low_limit : 2 ≤ v.limit = lawful.low in
    let several : 1 < count = more_than_one count e in
    let few : count < 60000 = parts_few (length v.changes) v.limit lawful.changes_room lawful.low lawful.high in
    let begun : h.first ≤ 253402300799999 = lawful.first in
    let gone : ℕ = h.first * v.limit in
    let dropped : gone ≤ count_by i = (kept_by i).within in
    let left : length h.changes ≡ count_by i - gone = kept_count changes v.limit (count_by i) h (kept_by i) (count_of_all s events i) in
    let covers : length h.changes ≤ count * v.limit = parts_cover (length h.changes) v.limit (omega arith) in
    let tight : count * v.limit < length h.changes + v.limit = parts_tight (length h.changes) v.limit (omega arith) in
    let total : (h.first + count) * v.limit ≡ gone + count * v.limit = grind arith in
    let below : AllByRecursion (λ k. k < count) numbers = numbers_below 0 count count (omega arith) in
    let Part : List ℕ → Type 0 = IsFetchedPart s events when i last in
    let named : AllByRecursion Part (part_paths (cond (nat_le count 1) list index)) = f.parts head.0 (change_head_of v) head.1 head.2 in
    let parts : AllByRecursion (λ k. Part (change_part_path (h.first + k))) numbers =
    unmapped Part (λ p. p.path) (change_entry_of v) numbers (paths_in_index (nat_le count 1) Part list index e named) in
    let time : ℕ → ℕ = λ k. when (change_part_path (h.first + k)) in
    let m : ℕ = count - 1 in
    let at_last : Part (change_part_path (h.first + m)) =
    at_number (λ k. Part (change_part_path (h.first + k))) 0 count m parts (omega arith) (omega arith) in
    let c : ℕ = count_by (time m) in
    let n : ℕ = min c ((h.first + count) * v.limit) in
    let later_c : count_by i ≤ c = count_between s events i (time m) at_last.after_head in
    let low : count_by i ≤ n = omega arith in
    let c_last : c ≤ count_by last = count_between s events (time m) last at_last.by_last in
    let c_end : c ≤ length changes = count_of_all s events (time m) in
    let items : List Change = drop gone (take n changes) in
    let counted : length items ≡ n - gone = omega (arith, length-drop gone (take n changes), length-take n changes, c_end) in
    let Read : ℕ → Type 0 = λ k. IsPartAt changes_in fetched (change_part_path (h.first + k)) (map (λ c. c) (part_at k v.limit items)) in
    let one : (k : ℕ) → (k < count) × Part (change_part_path (h.first + k)) → Read k = λ k p.
    let number : ℕ = h.first + k in
    let within : k < count = p.0 in
    let is : number + 1 ≡ h.first + count → n ≡ min (count_by (time k)) ((h.first + count) * v.limit) = λ q.
    let same : m ≡ k = omega arith in
    ap (λ j. min (count_by (time j)) ((h.first + count) * v.limit)) same in
    changed_part (state_at s events (time k)) fetched changes v.limit (count_by (time k)) number (part_at k v.limit items)
    (kept_by (time k)) (lawful_at laws.lawful s events (time k) l all) (omega arith) refl p.1.answered
    (same_part (number + 1 == h.first + count) number v.limit (count_by (time k)) n (h.first + count) (count_by i) changes refl
    (omega arith) (omega arith) (count_between s events i (time k) p.1.after_head) low is
    ∙ sym (part_dropped h.first k v.limit (take n changes))) in
    let each : AllByRecursion Read numbers =
    all_so (λ k. (k < count) × Part (change_part_path (h.first + k))) Read one numbers
    (all_both (λ k. k < count) (λ k. Part (change_part_path (h.first + k))) numbers below parts) in
    record {
      n = n;
      low = low;
      high = omega arith;
      gathered =
          changes_from_head h fetched lawful refl
          ∙ ap (λ b. gathered_changes fetched (cond b list index)) e
          ∙ changes_from_parts laws.change_chunks v fetched items count lawful.low
          (same_count (length items) v.limit count (omega arith) (omega arith) (omega arith)) each
          ∙ ap (λ m. Some (h.begin, drop (h.first * m) (take n changes))) kept.same_limit;
    }

changes_by : (b : Bool) → AreKeptWhere b
changes_by true = changes_whole
changes_by false = changes_in_parts

pub changes_fetched : AreLaws → (base : List ℕ) (limit moment : ℕ) (events : List Event) (when : List ℕ → ℕ) (last : ℕ)
    → let s = start_of base limit moment in
    IsLawful s → AllByRecursion IsLawfulEvent events → IsFetched s events when last (codes "/changelist.xml")
    → AreKeptChanges s events when last
changes_fetched laws base limit moment events when last l all f =
    let s : Source = start_of base limit moment in
    changes_by (nat_le (change_parts_of (shown_of (state_at s events (when (codes "/changelist.xml"))))) 1)
    laws base limit moment events when last l all f refl

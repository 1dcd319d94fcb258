-- The states at which documents are fetched, and the parts that are fetched there.
use Rattle.std.proofs.Common.{◌≡◌, ℕ, ◌+◌, ◌-◌, ◌*◌, ◌<◌, ◌≤◌, ◌^◌, List, map, take, drop, refl, sym, ap, ◌∙◌, arith, Option, Some, None, Bool, true, false, nat_le, subst, min}
use Rattle.std.specs.Prelude.{IsTrue, is_some, ◌==◌}
use Rattle.std.proofs.lemmas.Bool.Decides.{nat_tests}
use Rattle.std.proofs.lemmas.List.{drop-take, map-id, take-take}
use Rattle.rs_record.specs.declared.change.Change.{Change}
use Rattle.rs_model.specs.declared.event.Event.{Event}
use Rattle.rs_model.specs.Lawful.{IsLawful}
use Rattle.rs_model.specs.Listed.{record_of}
use Rattle.rs_model.specs.State.{Source}
use Rattle.rs_model.specs.Walk.{state_at, commands_of}
use Rattle.rs_model.specs.WalkLaws.{WalksAreFolds}
use Rattle.rs_lists.specs.declared.doc.Doc.TheVariants.{ResourcePart, ChangePart}
use Rattle.rs_lists.specs.Chunks.{parts_of, part_at}
use Rattle.rs_lists.specs.Text.{list_text, resource_part_path, change_part_path}
use Rattle.rs_caps.proofs.FromBelow.{parts_cover, parts_tight, scale}
use Rattle.rs_caps.specs.Shows.{shown_of}
use Rattle.rs_caps.specs.Readings.Document.{ResourceList}
use Rattle.rs_caps.specs.Answer.{answer, listed_of, change_part_of}
use Rattle.rs_caps.specs.Gather.{resources_in, changes_in}
use Rattle.rs_caps.proofs.DroppedParts.{part_dropped}
use Rattle.rs_caps.proofs.PathsRead.{doc_of-path_of}
use Rattle.rs_caps.proofs.TextsRead.{shown_lawful, text_reads}
use Rattle.rs_caps.proofs.Gathering.{IsPartAt}
use Rattle.rs_caps.proofs.ListsRead.{answer_at}
use Rattle.rs_caps.proofs.LaterStates.{IsLater, later}
use Rattle.rs_caps.proofs.PartsStay.{listed_there, change_there}
use Rattle.rs_caps.proofs.Walks.{folded, IsKept}

pub later_between : WalksAreFolds → (s : Source) (events : List Event) (i j : ℕ) → i ≤ j → IsLater (state_at s events i) (state_at s events j)
later_between folds s events i j h =
    let t : Source = state_at s events i in
    subst (IsLater t) (sym (folded folds s events i j h)) (later t (commands_of (drop i (take j events))))

-- a part of the Resource List, fetched later than its head
some_text : {A : Type 0} (o : Option A) → IsTrue (is_some o) → (x : A) × (o ≡ Some x)
some_text None h = cc
some_text (Some x) h = (x, refl)

pub listed_part : (r t : Source) (fetched : List ℕ → Option (List ℕ)) (k : ℕ) → IsLater r t → IsLawful t → r.number < 2 ^ 64 → k < 2 ^ 64
    → fetched (resource_part_path r.number k) ≡ answer t (resource_part_path r.number k)
    → IsTrue (is_some (fetched (resource_part_path r.number k)))
    → IsPartAt resources_in fetched (resource_part_path r.number k) (map listed_of (part_at k r.limit (map record_of r.listed)))
listed_part r t fetched k after l few small same there =
    let path : List ℕ = resource_part_path r.number k in
    let found = some_text (fetched path) there in
    let at = answer_at t path (ResourcePart r.number k) tt (doc_of-path_of (ResourcePart r.number k) (few, small)) in
    let text : list_text (shown_of t) (ResourcePart r.number k) ≡ Some found.0 = sym at ∙ sym same ∙ found.1 in
    let kept = after.published (sym (listed_there t r.number k found.0 text).0) in
    record {
      text = found.0;
      document = ResourceList t.at (map listed_of (part_at k t.limit (map record_of t.listed)));
      there = found.1;
      read = text_reads (shown_of t) (ResourcePart r.number k) found.0 (shown_lawful t l) text;
      gives = λ i. Some (map listed_of (part_at k (after.limit i) (map record_of (kept.1 i))));
    }

-- a part of the Change List, fetched when n changes were recorded, among all
pub changed_part : (t : Source) (fetched : List ℕ → Option (List ℕ)) (all : List Change) (limit n number : ℕ) (items : List Change)
    → IsKept all limit n t → IsLawful t → number < 2 ^ 64 → fetched (change_part_path number) ≡ answer t (change_part_path number)
    → IsTrue (is_some (fetched (change_part_path number))) → part_at number limit (take n all) ≡ items
    → IsPartAt changes_in fetched (change_part_path number) (map (λ c. c) items)
changed_part t fetched all limit n number items kept l small same there part =
    let path : List ℕ = change_part_path number in
    let found = some_text (fetched path) there in
    let at = answer_at t path (ChangePart number) tt (doc_of-path_of (ChangePart number) small) in
    let text : list_text (shown_of t) (ChangePart number) ≡ Some found.0 = sym at ∙ sym same ∙ found.1 in
    let k : ℕ = number - t.first in
    let e : t.first + k ≡ number = omega (arith, (change_there t number found.0 text).0) in
    record {
      text = found.0;
      document = change_part_of (shown_of t) k;
      there = found.1;
      read = text_reads (shown_of t) (ChangePart number) found.0 (shown_lawful t l) text;
      gives = (λ i. Some (part_at k (kept.same_limit i) (kept.changes i)))
          ∙ ap Some (part_dropped t.first k limit (take n all) ∙ ap (λ m. part_at m limit (take n all)) e ∙ part ∙ sym (map-id items));
    }

-- a part of the first n items is a part of all, where n reaches its end
part_whole : {A : Type 0} (k limit n : ℕ) (items : List A) → (k + 1) * limit ≤ n → part_at k limit (take n items) ≡ part_at k limit items
part_whole k limit n items h =
    let e : (k + 1) * limit ≡ k * limit + limit = grind arith in
    let m : n ≡ k * limit + (n - k * limit) = omega arith in
    let room : limit ≤ n - k * limit = omega arith in
    ap (λ j. part_at k limit (take j items)) m
    ∙ ap (take limit) (drop-take (k * limit) (n - k * limit) items)
    ∙ take-take limit (n - k * limit) (drop (k * limit) items) room

-- the last part, fetched when there are c items, ends with item c or with itself
part_last : {A : Type 0} (b : Bool) (k limit c : ℕ) (items : List A) → nat_le c ((k + 1) * limit) ≡ b
    → part_at k limit (take c items) ≡ part_at k limit (take (min c ((k + 1) * limit)) items)
part_last true k limit c items e =
    let within : c ≤ (k + 1) * limit = grind (arith, nat_tests) in
    let same : c ≡ min c ((k + 1) * limit) = omega arith in
    ap (λ n. part_at k limit (take n items)) same
part_last false k limit c items e =
    let past : (k + 1) * limit ≤ c = grind (arith, nat_tests) in
    let same : (k + 1) * limit ≡ min c ((k + 1) * limit) = omega arith in
    part_whole k limit c items past ∙ sym (part_whole k limit ((k + 1) * limit) items (omega arith))
    ∙ ap (λ n. part_at k limit (take n items)) same

-- A part that an index of `parts` parts names, fetched when there are c items: it is that part of the first n, which
-- end with the last part that was fetched.
pub same_part : {A : Type 0} (last : Bool) (k limit c n parts head : ℕ) (items : List A) → (k + 1 == parts) ≡ last → k < parts
    → parts * limit < head + limit → head ≤ c → head ≤ n
    → (k + 1 ≡ parts → n ≡ min c (parts * limit)) → part_at k limit (take c items) ≡ part_at k limit (take n items)
same_part true k limit c n parts head items e below tight a b is =
    let end : k + 1 ≡ parts = grind (arith, nat_tests) in
    part_last (nat_le c ((k + 1) * limit)) k limit c items refl
    ∙ ap (λ p. part_at k limit (take (min c (p * limit)) items)) end
    ∙ ap (λ m. part_at k limit (take m items)) (sym (is end))
same_part false k limit c n parts head items e below tight a b is =
    let before : k + 1 < parts = grind (arith, nat_tests) in
    let s = scale (k + 1 + 1) parts limit (omega arith) in
    let d : (k + 1 + 1) * limit ≡ (k + 1) * limit + limit = grind arith in
    let full : (k + 1) * limit ≤ head = omega arith in
    part_whole k limit c items (omega arith) ∙ sym (part_whole k limit n items (omega arith))

-- parts that cover items tightly are as many as the items need
not_more : (b : Bool) (p q n limit : ℕ) → nat_le q p ≡ b → n ≤ p * limit → q * limit < n + limit → q ≤ p
not_more true p q n limit e covers tight = grind (arith, nat_tests)
not_more false p q n limit e covers tight =
    let above : p + 1 ≤ q = grind (arith, nat_tests) in
    let s = scale (p + 1) q limit above in
    let d : (p + 1) * limit ≡ p * limit + limit = grind arith in
    absurd (omega arith)

pub same_count : (n limit count : ℕ) → 0 < limit → n ≤ count * limit → count * limit < n + limit → parts_of n limit ≡ count
same_count n limit count low covers tight =
    let fewer = not_more (nat_le (parts_of n limit) count) count (parts_of n limit) n limit refl covers (parts_tight n limit low) in
    let more = not_more (nat_le count (parts_of n limit)) (parts_of n limit) count n limit refl (parts_cover n limit low) tight in
    omega (arith, fewer, more)

-- Two answers at the path of one part are equal.
use Rattle.std.proofs.Common.{◌≡◌, ℕ, ◌+◌, ◌-◌, ◌*◌, ◌≤◌, List, [], ◌++◌, length, map, take, drop, refl, sym, ap, ◌∙◌, arith, Some, None, Bool, true, false, cond, nat_le, length-append, length-drop, subst}
use Rattle.std.specs.Prelude.{codes, ◌==◌, ◌&&◌}
use Rattle.std.specs.Cmp.{first_so}
use Rattle.std.specs.List.{AllByRecursion}
use Rattle.std.proofs.lemmas.Bool.Decides.{nat_tests}
use Rattle.std.proofs.lemmas.List.{take-append-le, drop-append-le}
use Rattle.rs_record.specs.Changes.{last_moment}
use Rattle.rs_record.specs.declared.change.Change.{Change}
use Rattle.rs_model.specs.declared.command.Command.{Command}
use Rattle.rs_model.specs.declared.value.Entry.{Entry}
use Rattle.rs_model.specs.Lawful.{IsLawful, IsLawfulTimed}
use Rattle.rs_model.specs.Names.{Names}
use Rattle.rs_model.specs.State.{Source}
use Rattle.rs_model.specs.Step.{fold_of}
use Rattle.rs_model.specs.LaterChanges.{KeepsChanges}
use Rattle.rs_model.specs.Laws.{FoldIsLawful, ChangesAreKept}
use Rattle.rs_lists.specs.declared.doc.Doc.TheVariants.{ResourcePart, ChangePart}
use Rattle.rs_lists.specs.Chunks.{part_at}
use Rattle.rs_lists.specs.Shown.{Shown, resource_parts_of, change_parts_of}
use Rattle.rs_lists.specs.Text.{list_text, from_of, until_of, is_part, resource_list, change_list, change_part_text, part_links}
use Rattle.rs_caps.specs.Paths.{doc_of}
use Rattle.rs_model.specs.Listed.{record_of}
use Rattle.rs_caps.specs.Shows.{shown_of}
use Rattle.rs_caps.specs.Readings.Document.{ChangeList}
use Rattle.rs_caps.specs.Reads.{reads}
use Rattle.rs_caps.specs.Answer.{answer, change_part_of}
use Rattle.rs_caps.proofs.TextsRead.{shown_lawful, text_reads}
use Rattle.rs_caps.proofs.ListsRead.{answer_at}
use Rattle.rs_caps.proofs.DroppedParts.{part_dropped, moment_dropped}
use Rattle.rs_caps.proofs.LaterStates.{IsLater, later, fold-append}

pub if_there : {A : Type 0} (b : Bool) (x y : A) → cond b (Some x) None ≡ Some y → (b ≡ true) × (x ≡ y)
if_there true x y h = (refl, cc)
if_there false x y h = cc

same_number : (n m : ℕ) → (n == m) ≡ true → n ≡ m
same_number n m e = grind (arith, nat_tests)

-- the base and the moment that the text of a part has, in addition to its items
abbrev shows : List ℕ → ℕ → Shown
shows base at = record { base = base; limit = 0; start = 0; number = 0; at = at; published = []; changes = []; first = 0; begin = 0 }

-- a part of the Resource List, by the values on which it depends
abbrev listed_text : List ℕ → ℕ → ℕ → Names Entry → ℕ → List ℕ
listed_text base limit at listed k =
    let s : Shown = shows base at in
    resource_list s (part_links s (codes "/resourcelist.xml")) (part_at k limit (map record_of listed))

pub listed_there : (s : Source) (p k : ℕ) (x : List ℕ) → list_text (shown_of s) (ResourcePart p k) ≡ Some x
    → (p ≡ s.number) × (listed_text s.base s.limit s.at s.listed k ≡ x)
unfolding list_text
listed_there s p k x h =
    let both = if_there ((p == s.number) && is_part (resource_parts_of (shown_of s)) 0 k)
    (listed_text s.base s.limit s.at s.listed k) x h in
    (same_number p s.number (first_so (p == s.number) (is_part (resource_parts_of (shown_of s)) 0 k) both.0), both.1)

same_listed : (s t : Source) (k : ℕ) → IsLater s t → (t.at ≡ s.at) × (t.listed ≡ s.listed)
    → listed_text s.base s.limit s.at s.listed k ≡ listed_text t.base t.limit t.at t.listed k
same_listed s t k h same =
    let f : List ℕ → ℕ → ℕ → Names Entry → List ℕ = λ base limit at listed. listed_text base limit at listed k in
    λ i. f (sym h.base i) (sym h.limit i) (sym same.0 i) (sym same.1 i)

pub listed_stays : (s : Source) (more : List (Command × ℕ)) (path x y : List ℕ) (publication k : ℕ)
    → doc_of path ≡ Some (ResourcePart publication k) → answer s path ≡ Some x → answer (fold_of s more) path ≡ Some y → x ≡ y
listed_stays s more path x y p k d h g =
    let t : Source = fold_of s more in
    let l : IsLater s t = later s more in
    let a = listed_there s p k x (sym (answer_at s path (ResourcePart p k) tt d) ∙ h) in
    let b = listed_there t p k y (sym (answer_at t path (ResourcePart p k) tt d) ∙ g) in
    sym a.1 ∙ same_listed s t k l (l.published (sym b.0 ∙ a.0)) ∙ b.1

pub listed_parts_stay : (s : Source) (earlier more : List (Command × ℕ)) (path x y : List ℕ) (publication k : ℕ)
    → doc_of path ≡ Some (ResourcePart publication k)
    → answer (fold_of s earlier) path ≡ Some x → answer (fold_of s (earlier ++ more)) path ≡ Some y → x ≡ y
listed_parts_stay s earlier more path x y p k d h g =
    listed_stays (fold_of s earlier) more path x y p k d h (ap (λ t. answer t path) (sym (fold-append s earlier more)) ∙ g)

-- a closed part of the Change List, by the values on which it depends
abbrev from_in : ℕ → ℕ → List Change → ℕ → ℕ
from_in begin limit changes k = last_moment begin (take (k * limit) changes)

abbrev closed_text : List ℕ → ℕ → ℕ → List Change → ℕ → List ℕ
closed_text base limit begin changes k =
    let s : Shown = shows base 0 in
    change_list s (part_links s (codes "/changelist.xml")) (from_in begin limit changes k)
    (Some (from_in begin limit changes (k + 1))) (part_at k limit changes)

not_dropped : (parts first number : ℕ) → is_part parts first number ≡ true → first ≤ number
not_dropped parts first number h = grind (arith, nat_tests)

-- a part that is there has a number from the first on
pub change_there : (s : Source) (number : ℕ) (x : List ℕ) → list_text (shown_of s) (ChangePart number) ≡ Some x
    → (s.first ≤ number) × (change_part_text (shown_of s) (number - s.first) ≡ x)
unfolding list_text
change_there s number x h =
    let parts : ℕ = change_parts_of (shown_of s) in
    let both = if_there (is_part parts s.first number) (change_part_text (shown_of s) (number - s.first)) x h in
    (not_dropped parts s.first number both.0, both.1)

closed : (s : Source) (k : ℕ) (x : List ℕ) → (k + 1) * s.limit ≤ length s.changes → change_part_text (shown_of s) k ≡ x
    → closed_text s.base s.limit s.begin s.changes k ≡ x
closed s k x h e =
    let full : nat_le ((k + 1) * s.limit) (length s.changes) ≡ true = grind (arith, nat_tests) in
    ap (λ b. change_list (shown_of s) (part_links (shown_of s) (codes "/changelist.xml")) (from_of (shown_of s) k)
    (cond b (Some (from_of (shown_of s) (k + 1))) None) (part_at k s.limit s.changes)) (sym full) ∙ e

-- more changes leave a full part as it is
closed_more : (base : List ℕ) (limit begin : ℕ) (a b : List Change) (k : ℕ) → (k + 1) * limit ≤ length a
    → closed_text base limit begin (a ++ b) k ≡ closed_text base limit begin a k
closed_more base limit begin a b k h =
    let e : (k + 1) * limit ≡ k * limit + limit = grind arith in
    let front : take (k * limit) (a ++ b) ≡ take (k * limit) a = take-append-le (k * limit) a b (omega arith) in
    let next : take ((k + 1) * limit) (a ++ b) ≡ take ((k + 1) * limit) a = take-append-le ((k + 1) * limit) a b h in
    let items : part_at k limit (a ++ b) ≡ part_at k limit a =
    ap (take limit) (drop-append-le (k * limit) a b (omega arith))
    ∙ take-append-le limit (drop (k * limit) a) b (omega (arith, length-drop (k * limit) a)) in
    let s : Shown = shows base 0 in
    λ i. change_list s (part_links s (codes "/changelist.xml")) (last_moment begin (front i)) (Some (last_moment begin (next i))) (items i)

-- and so does a drop of the first g parts, after which it is number k
closed_dropped : (base : List ℕ) (limit begin g : ℕ) (changes : List Change) (k : ℕ)
    → closed_text base limit (last_moment begin (take (g * limit) changes)) (drop (g * limit) changes) k
    ≡ closed_text base limit begin changes (g + k)
closed_dropped base limit begin g changes k =
    let e : g + (k + 1) ≡ g + k + 1 = omega arith in
    let next = moment_dropped g (k + 1) limit begin changes ∙ ap (from_in begin limit changes) e in
    let s : Shown = shows base 0 in
    λ i. change_list s (part_links s (codes "/changelist.xml")) (moment_dropped g k limit begin changes i) (Some (next i))
    (part_dropped g k limit changes i)

-- a part stays full among the remaining changes
room_left : (s t : Source) (more : List Change) (n m : ℕ) → KeepsChanges s more t → t.first - s.first + m ≡ n
    → (n + 1) * s.limit ≤ length s.changes → (m + 1) * t.limit ≤ length t.changes
room_left s t more n m k is full =
    let g : ℕ = t.first - s.first in
    let all : List Change = s.changes ++ more in
    let d : (g + m + 1) * s.limit ≡ g * s.limit + (m + 1) * s.limit = grind arith in
    let full' : (g + m + 1) * s.limit ≤ length s.changes = subst (λ j. (j + 1) * s.limit ≤ length s.changes) (sym is) full in
    let left : (m + 1) * s.limit ≤ length (drop (g * s.limit) all) =
    omega (arith, length-drop (g * s.limit) all, length-append s.changes more) in
    rw (k.limit, k.changes) left

closed_same : (s t : Source) (more : List Change) (number : ℕ) (x y : List ℕ) → t.base ≡ s.base → KeepsChanges s more t
    → s.first ≤ number → t.first ≤ number → (number - s.first + 1) * s.limit ≤ length s.changes
    → change_part_text (shown_of s) (number - s.first) ≡ x → change_part_text (shown_of t) (number - t.first) ≡ y → x ≡ y
closed_same s t more number x y base k low high full p q =
    let g : ℕ = t.first - s.first in
    let n : ℕ = number - s.first in
    let m : ℕ = number - t.first in
    let all : List Change = s.changes ++ more in
    let e : g + m ≡ n = omega (arith, k.first) in
    sym (closed s n x full p) ∙ sym (closed_more s.base s.limit s.begin s.changes more n full)
    ∙ ap (closed_text s.base s.limit s.begin all) (sym e) ∙ sym (closed_dropped s.base s.limit s.begin g all m)
    ∙ (λ i. closed_text (sym base i) (sym k.limit i) (sym k.begin i) (sym k.changes i) m)
    ∙ closed t m y (room_left s t more n m k e full) q

-- a part whose text has `until` is full
full_part : (s : Source) (number start until : ℕ) (x : List ℕ) (children : List Change) → IsLawful s
    → list_text (shown_of s) (ChangePart number) ≡ Some x → reads x ≡ Some (ChangeList start (Some until) children)
    → (number - s.first + 1) * s.limit ≤ length s.changes
full_part s number start until x children l h r =
    let k : ℕ = number - s.first in
    let same : Some (change_part_of (shown_of s) k) ≡ Some (ChangeList start (Some until) children) =
    sym (text_reads (shown_of s) (ChangePart number) x (shown_lawful s l) h) ∙ r in
    let ends : until_of (shown_of s) k ≡ Some until = cc in
    by_test (if_there (nat_le ((k + 1) * s.limit) (length s.changes)) (from_of (shown_of s) (k + 1)) until ends).0
  where
    by_test : nat_le ((number - s.first + 1) * s.limit) (length s.changes) ≡ true → (number - s.first + 1) * s.limit ≤ length s.changes
    by_test e = grind (arith, nat_tests)

pub closed_stays : ChangesAreKept → (s : Source) (more : List (Command × ℕ)) (path x y : List ℕ) (number start until : ℕ)
    (children : List Change) → IsLawful s
    → doc_of path ≡ Some (ChangePart number) → reads x ≡ Some (ChangeList start (Some until) children)
    → answer s path ≡ Some x → answer (fold_of s more) path ≡ Some y → x ≡ y
closed_stays kept s more path x y number start until children l d r h g =
    let t : Source = fold_of s more in
    let first : list_text (shown_of s) (ChangePart number) ≡ Some x = sym (answer_at s path (ChangePart number) tt d) ∙ h in
    let second : list_text (shown_of t) (ChangePart number) ≡ Some y = sym (answer_at t path (ChangePart number) tt d) ∙ g in
    let a = change_there s number x first in
    let b = change_there t number y second in
    let k = kept s more in
    closed_same s t k.0 number x y (later s more).base k.1 a.0 b.0 (full_part s number start until x children l first r) a.1 b.1

pub closed_parts_stay : ChangesAreKept → FoldIsLawful → (s : Source) (earlier more : List (Command × ℕ)) (path x y : List ℕ)
    (k start until : ℕ) (children : List Change) → IsLawful s → AllByRecursion IsLawfulTimed earlier
    → doc_of path ≡ Some (ChangePart k) → reads x ≡ Some (ChangeList start (Some until) children)
    → answer (fold_of s earlier) path ≡ Some x → answer (fold_of s (earlier ++ more)) path ≡ Some y → x ≡ y
closed_parts_stay kept lawful s earlier more path x y k start until children l all d r h g =
    closed_stays kept (fold_of s earlier) more path x y k start until children (lawful s earlier l all) d r h
    (ap (λ t. answer t path) (sym (fold-append s earlier more)) ∙ g)

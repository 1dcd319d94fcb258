-- The texts of documents.
use Rattle.std.proofs.Common.{◌≡◌, ℕ, ◌+◌, ◌-◌, ◌*◌, ◌≤◌, ◌<◌, List, [], ◌∷◌, take, length, map, Bool, true, false, cond, nat_le, nat_lt, refl, ap, sym, subst, ◌∙◌, ◌⊎◌, inl, inr, arith, Option, Some, None}
use Rattle.std.specs.Prelude.{codes, IsTrue, ◌==◌, ◌&&◌, IsSome, option_map}
use Rattle.std.proofs.lemmas.Bool.Decides.{nat_tests}
use Rattle.std.proofs.lemmas.List.{length-map, take-map, drop-map}
use Rattle.rs_lists.specs.declared.doc.Doc.{Doc}
use Rattle.rs_lists.specs.declared.doc.Doc.TheVariants.{Description, Capabilities, ResourceHead, ResourcePart, ChangeHead, ChangePart}
use Rattle.rs_lists.specs.Chunks.{parts_of, part_at}
use Rattle.rs_lists.specs.Listed.{Listed, resources, changes, parts_in, head_text, whole_text, part_text}
use Rattle.rs_lists.specs.Shown.{Shown, resource_parts_of, change_parts_of}
use Rattle.rs_lists.specs.Text.{list_text, is_part, document, up_line, part_links, numbers_from, resource_line, change_line}
use Rattle.std.specs.Cmp.{first_so, second_so}

-- the heads
head_is : (l : Listed) (s : Shown) (n : ℕ) → length (l.items s) ≡ n
    → cond (nat_le (parts_of n s.limit) 1) (whole_text l s) (document (codes "sitemapindex") (up_line s.base ∷ []) (l.bounds s) (map (l.entry s) (numbers_from 0 (parts_of n s.limit)))) ≡ head_text l s
head_is l s n e = rw e refl

pub resource_head_is : (s : Shown) (doc : Doc) → doc ≡ ResourceHead → list_text s doc ≡ Some (head_text resources s)
unfolding list_text
resource_head_is s doc is = rw is (ap Some (head_is resources s (length s.published) (length-map s.published (resource_line s.base))))

pub change_head_is : (s : Shown) (doc : Doc) → doc ≡ ChangeHead → list_text s doc ≡ Some (head_text changes s)
unfolding list_text
change_head_is s doc is = rw is (ap Some (head_is changes s (length s.changes) (length-map s.changes (change_line s.base))))

-- the items of a part
part_at-map : {A B : Type 0} (f : A → B) (k limit : ℕ) (xs : List A) → map f (part_at k limit xs) ≡ part_at k limit (map f xs)
part_at-map f k limit xs = sym (ap (take limit) (drop-map f (k * limit) xs) ∙ take-map f limit _)

-- a value that exists only where a test holds
tested : {A : Type 0} (b : Bool) (x : A) → IsSome (cond b (Some x) None) → (IsTrue b) × (cond b (Some x) None ≡ Some x)
tested true x h = (refl, refl)
tested false x h = cc

-- the number of a part that exists
pub within : (parts first number : ℕ) → IsTrue (is_part parts first number) → (first ≤ number) × (number < first + parts)
within parts first number h =
    let front = first_so (nat_lt 1 parts && nat_le first number) (nat_lt number (first + parts)) h in
    let low : nat_le first number ≡ true = second_so (nat_lt 1 parts) (nat_le first number) front in
    let high : nat_lt number (first + parts) ≡ true = second_so (nat_lt 1 parts && nat_le first number) (nat_lt number (first + parts)) h in
    (grind (arith, nat_tests), grind (arith, nat_tests))

resource_part : (s : Shown) (publication k : ℕ) → IsSome (list_text s (ResourcePart publication k))
    → (k < parts_in resources s) × (list_text s (ResourcePart publication k) ≡ Some (part_text resources s k))
unfolding list_text
resource_part s publication k h =
    let t = tested ((publication == s.number) && is_part (resource_parts_of s) 0 k) _ h in
    let w = within (resource_parts_of s) 0 k (second_so (publication == s.number) (is_part (resource_parts_of s) 0 k) t.0) in (
      subst (λ n. k < parts_of n s.limit) (sym (length-map s.published (resource_line s.base))) (omega arith),
      t.1 ∙ ap (λ xs. Some (document (codes "urlset") (part_links s (codes "/resourcelist.xml")) (resources.part_bounds s k) xs)) (part_at-map (resource_line s.base) k s.limit s.published),
    )

pub resource_part_is : (s : Shown) (doc : Doc) (publication k : ℕ) → doc ≡ ResourcePart publication k → IsSome (list_text s doc) → (k < parts_in resources s) × (list_text s doc ≡ Some (part_text resources s k))
resource_part_is s doc publication k e h = rw e (resource_part s publication k (rw e at h))

change_part : (s : Shown) (number : ℕ) → IsSome (list_text s (ChangePart number))
    → (s.first ≤ number) × (number - s.first < parts_in changes s) × (list_text s (ChangePart number) ≡ Some (part_text changes s (number - s.first)))
unfolding list_text
change_part s number h =
    let k = number - s.first in
    let t = tested (is_part (change_parts_of s) s.first number) _ h in
    let w = within (change_parts_of s) s.first number t.0 in (
      w.0,
      subst (λ n. k < parts_of n s.limit) (sym (length-map s.changes (change_line s.base))) (omega arith),
      t.1 ∙ ap (λ xs. Some (document (codes "urlset") (part_links s (codes "/changelist.xml")) (changes.part_bounds s k) xs)) (part_at-map (change_line s.base) k s.limit s.changes),
    )

pub change_part_is : (s : Shown) (doc : Doc) (number first : ℕ) → doc ≡ ChangePart number → first ≡ s.first → IsSome (list_text s doc)
    → (first ≤ number) × (number - first < parts_in changes s) × (list_text s doc ≡ Some (part_text changes s (number - first)))
change_part_is s doc number first e f h = rw (e, f) (change_part s number (rw e at h))

-- the value made from a place, if the place exists
placed : {A : Type 0} (b : Bool) (k : ℕ) (f : ℕ → A) (x : A) (o : Option ℕ) → f k ≡ x → o ≡ cond b (Some k) None → option_map f o ≡ cond b (Some x) None
placed true k f x o same e = ap (option_map f) e ∙ ap Some same
placed false k f x o same e = ap (option_map f) e

pub resource_part_has : (s : Shown) (doc : Doc) (publication k parts : ℕ) (o : Option ℕ) → doc ≡ ResourcePart publication k → publication ≡ s.number → parts ≡ resource_parts_of s
    → o ≡ cond (is_part parts 0 k) (Some (k - 0)) None → option_map (part_text resources s) o ≡ list_text s doc
unfolding list_text
resource_part_has s doc publication k parts o is latest all e =
    let same : (publication == s.number) ≡ true = grind (arith, nat_tests) in
    let whole : k - 0 ≡ k = omega arith in
    let items = part_at-map (resource_line s.base) k s.limit s.published in
    let text : part_text resources s (k - 0) ≡ document (codes "urlset") (part_links s (codes "/resourcelist.xml")) (resources.part_bounds s k) (map (resource_line s.base) (part_at k s.limit s.published)) =
    ap (part_text resources s) whole ∙ sym (ap (document (codes "urlset") (part_links s (codes "/resourcelist.xml")) (resources.part_bounds s k)) items) in
    placed (is_part (resource_parts_of s) 0 k) (k - 0) (part_text resources s) _ o text (e ∙ ap (λ n. cond (is_part n 0 k) (Some (k - 0)) None) all)
    ∙ rw (is, same) refl

pub resource_part_old : (s : Shown) (doc : Doc) (publication k : ℕ) → doc ≡ ResourcePart publication k → ¬ (publication ≡ s.number) → None ≡ list_text s doc
unfolding list_text
resource_part_old s doc publication k is old =
    let other : (publication == s.number) ≡ false = grind (arith, nat_tests) in
    rw (is, other) refl

pub change_part_has : (s : Shown) (doc : Doc) (number parts first : ℕ) (o : Option ℕ) → doc ≡ ChangePart number → parts ≡ change_parts_of s → first ≡ s.first
    → o ≡ cond (is_part parts first number) (Some (number - first)) None → option_map (part_text changes s) o ≡ list_text s doc
unfolding list_text
change_part_has s doc number parts first o is all begin e =
    let k = number - s.first in
    let items = part_at-map (change_line s.base) k s.limit s.changes in
    let text : part_text changes s k ≡ document (codes "urlset") (part_links s (codes "/changelist.xml")) (changes.part_bounds s k) (map (change_line s.base) (part_at k s.limit s.changes)) =
    sym (ap (document (codes "urlset") (part_links s (codes "/changelist.xml")) (changes.part_bounds s k)) items) in
    let place : o ≡ cond (is_part (change_parts_of s) s.first number) (Some k) None =
    e ∙ ap (λ n. cond (is_part n first number) (Some (number - first)) None) all ∙ ap (λ f. cond (is_part (change_parts_of s) f number) (Some (number - f)) None) begin in
    placed (is_part (change_parts_of s) s.first number) k (part_text changes s) _ o text place ∙ rw is refl

-- the documents that are no lists
pub others_absent : (s : Shown) (doc : Doc) → (doc ≡ Description) ⊎ (doc ≡ Capabilities) → None ≡ list_text s doc
unfolding list_text
others_absent s doc (inl e) = rw e refl
others_absent s doc (inr e) = rw e refl

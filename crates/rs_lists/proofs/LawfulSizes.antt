-- The greatest lengths of the texts of a lawful view.
use Rattle.std.proofs.Common.{◌≡◌, ℕ, suc, zero, ◌+◌, ◌-◌, ◌*◌, ◌<◌, ◌≤◌, List, Bool, true, false, nat_le, length, drop, refl, ◌⊎◌, inl, inr, arith, length-take, subst, Option, Some, None}
use Rattle.std.specs.Prelude.{IsTrue, IsSome, IfSome, cond}
use Rattle.std.specs.List.{All}
use Rattle.std.proofs.lemmas.List.{length-map}
use Rattle.std.proofs.lemmas.List.Elements.{All-nil, All-cons, All-weaker, All-take, All-drop, All-map}
use Rattle.std.proofs.lemmas.Bool.Decides.{nat_tests}
use Rattle.rs_fixity.specs.HashText.{hash_text_of}
use Rattle.rs_record.specs.Base.{is_base}
use Rattle.rs_record.specs.declared.facts.Facts.{Facts}
use Rattle.rs_record.specs.declared.record.Record.{Record}
use Rattle.rs_record.specs.declared.change.Change.{Change}
use Rattle.rs_lists.specs.declared.doc.Doc.{Doc}
use Rattle.rs_lists.specs.declared.doc.Doc.TheVariants.{Description, Capabilities, ResourceHead, ResourcePart, ChangeHead, ChangePart}
use Rattle.rs_record.specs.Format.{facts_in}
use Rattle.rs_record.specs.Lawful.{IsLawfulFacts, IsLawfulRecord, IsLawfulChange}
use Rattle.rs_record.specs.Limits.{most_items}
use Rattle.rs_lists.specs.Chunks.{part_at}
use Rattle.rs_lists.specs.Lawful.{IsLawfulShown, IsSmall}
use Rattle.rs_lists.specs.Listed.{Listed, resources, changes, parts_in, entries, whole_text, index_text, part_text}
use Rattle.rs_lists.specs.Shown.{Shown}
use Rattle.rs_lists.specs.Text.{line, numbers_from, list_text, resource_line, change_line, from_of, until_of}
use Rattle.rs_lists.proofs.Bounds.{resource_line_small, bound_line_small, unbound_line_small, resource_entry_small, change_entry_small, children_small, base_length}
use Rattle.rs_lists.proofs.Documents.{resource_head_is, change_head_is, resource_part_is, change_part_is, others_absent}
use Rattle.rs_lists.proofs.Lengths.{length-hash_text_of}
use Rattle.rs_lists.proofs.Lines.{length-entries}
use Rattle.rs_lists.proofs.Parts.{one_part, parts_few}
use Rattle.rs_lists.proofs.Sizes.{resource_md_small, change_md_small, whole_small, part_small, index_small}

hash_length_is : (f : Facts) → IsLawfulFacts f → length (hash_text_of f.digests) ≡ 109
hash_length_is f h = let e = length-hash_text_of f.digests in let a = h.md5 in let b = h.sha256 in omega arith

pub lawful_resource_small : (base : List ℕ) (r : Record) → IsTrue (is_base base) → IsLawfulRecord r → length (line (resource_line base r)) ≤ 2450
lawful_resource_small base r b h = resource_line_small base r b h.name h.facts.kind h.facts.len (hash_length_is (facts_in r) h.facts)

by_facts : (base : List ℕ) (c : Change) (facts : Option Facts) → c.facts ≡ facts → IsTrue (is_base base) → IsLawfulChange c → IfSome facts IsLawfulFacts → length (line (change_line base c)) ≤ 2450
by_facts base c None e b h f = unbound_line_small base c e b h.name
by_facts base c (Some facts) e b h f = bound_line_small base c facts e b h.name f.kind f.len (hash_length_is facts f)

pub lawful_change_small : (base : List ℕ) (c : Change) → IsTrue (is_base base) → IsLawfulChange c → length (line (change_line base c)) ≤ 2450
lawful_change_small base c b h = by_facts base c c.facts refl b h h.facts

-- numbers one after another
numbers_all : (P : ℕ → Type 0) (first n : ℕ) → ((k : ℕ) → first ≤ k → k < first + n → P k) → All P (numbers_from first n)
numbers_all P first zero h = All-nil P
numbers_all P first (suc n) h = All-cons P first (numbers_from (first + 1) n) (h first (omega arith) (omega arith)) (numbers_all P (first + 1) n (λ k low high. h k (omega arith) (omega arith)))

-- a list of short lines
abbrev IsShort : ℕ → List ℕ → Type 0
IsShort most x = length (line x) ≤ most

record HasShortLines (l : Listed) (s : Shown) : Type 0 where
  base : length s.base ≤ 128
  path : length l.path ≤ 18
  bounds : IsShort 160 (l.bounds s)
  part_bounds : (k : ℕ) → IsShort 160 (l.part_bounds s k)
  few : length (l.items s) ≤ most_items
  items : All (IsShort 2450) (l.items s)
  entry : (k : ℕ) → k < parts_in l s → IsShort 276 (l.entry s k)

short_resources : (s : Shown) → IsLawfulShown s → HasShortLines resources s
short_resources s h =
    let few = length-map s.published (resource_line s.base) in
    record {
      base = base_length s.base h.base;
      path = omega arith;
      bounds = resource_md_small s.at;
      part_bounds = λ k. resource_md_small s.at;
      few = omega (arith, few, h.shown.published);
      items = All-map (IsShort 2450) (resource_line s.base) s.published (All-weaker IsLawfulRecord _ (λ r lawful. lawful_resource_small s.base r h.base lawful) s.published h.published);
      entry = λ k below. resource_entry_small s k (base_length s.base h.base) h.number (omega (arith, parts_few (length (resources.items s)) s.limit h.shown.low (omega (arith, few, h.shown.published))));
    }

short_changes : (s : Shown) → IsLawfulShown s → HasShortLines changes s
short_changes s h =
    let few = length-map s.changes (change_line s.base) in
    record {
      base = base_length s.base h.base;
      path = omega arith;
      bounds = change_md_small s.begin None;
      part_bounds = λ k. change_md_small (from_of s k) (until_of s k);
      few = omega (arith, few, h.shown.changes);
      items = All-map (IsShort 2450) (change_line s.base) s.changes (All-weaker IsLawfulChange _ (λ c lawful. lawful_change_small s.base c h.base lawful) s.changes h.changes);
      entry = λ k below. change_entry_small s k (base_length s.base h.base) (omega (arith, h.shown.first, parts_few (length (changes.items s)) s.limit h.shown.low (omega (arith, few, h.shown.changes))));
    }

-- its documents
head_by : (l : Listed) (s : Shown) (b : Bool) → nat_le (parts_in l s) 1 ≡ b → IsLawfulShown s → HasShortLines l s → IsSmall (cond b (whole_text l s) (index_text l s))
head_by l s true e h short =
    let one : parts_in l s ≤ 1 = grind (arith, nat_tests) in
    let fits = one_part (length (l.items s)) s.limit (omega (arith, h.shown.low)) one in
    whole_small l s (length (l.items s)) short.base short.bounds (children_small 2450 (l.items s) short.items) (omega (arith, h.shown.high))
head_by l s false e h short =
    let all = numbers_all (λ k. IsShort 276 (l.entry s k)) 0 (parts_in l s) (λ k low high. short.entry k (omega arith)) in
    let text = children_small 276 (entries l s) (All-map (IsShort 276) (l.entry s) (numbers_from 0 (parts_in l s)) all) in
    let few = parts_few (length (l.items s)) s.limit h.shown.low short.few in
    index_small l s (length (entries l s)) short.base short.bounds text (omega (arith, length-entries l s))

part_lawful : (l : Listed) (s : Shown) (k : ℕ) → IsLawfulShown s → HasShortLines l s → IsSmall (part_text l s k)
part_lawful l s k h short =
    let part = part_at k s.limit (l.items s) in
    let all = All-take (IsShort 2450) s.limit (drop (k * s.limit) (l.items s)) (All-drop (IsShort 2450) (k * s.limit) (l.items s) short.items) in
    part_small l s k (length part) short.base short.path (short.part_bounds k) (children_small 2450 part all) (omega (arith, length-take s.limit (drop (k * s.limit) (l.items s)), h.shown.high))

text_small : (d : Option (List ℕ)) (t text : List ℕ) → d ≡ Some t → IsSmall t → d ≡ Some text → IsSmall text
text_small d t text e h f = let same : t ≡ text = cc in subst IsSmall same h

there : (d : Option (List ℕ)) (text : List ℕ) → d ≡ Some text → IsSome d
there None text e = cc
there (Some t) text e = refl

absent_small : (s : Shown) (doc : Doc) (text : List ℕ) → (doc ≡ Description) ⊎ (doc ≡ Capabilities) → list_text s doc ≡ Some text → IsSmall text
absent_small s doc text h e =
    let none = others_absent s doc h in
    let some = there (list_text s doc) text e in
    cc

pub lawful_document_small : (s : Shown) (doc : Doc) (text : List ℕ) → IsLawfulShown s → list_text s doc ≡ Some text → IsSmall text
lawful_document_small s ResourceHead text h e = text_small _ _ text (resource_head_is s ResourceHead refl) (head_by resources s _ refl h (short_resources s h)) e
lawful_document_small s (ResourcePart publication k) text h e = text_small _ _ text (resource_part_is s _ publication k refl (there _ text e)).1 (part_lawful resources s k h (short_resources s h)) e
lawful_document_small s ChangeHead text h e = text_small _ _ text (change_head_is s ChangeHead refl) (head_by changes s _ refl h (short_changes s h)) e
lawful_document_small s (ChangePart number) text h e = text_small _ _ text (change_part_is s _ number s.first refl refl (there _ text e)).2 (part_lawful changes s (number - s.first) h (short_changes s h)) e
lawful_document_small s Description text h e = absent_small s Description text (inl refl) e
lawful_document_small s Capabilities text h e = absent_small s Capabilities text (inr refl) e

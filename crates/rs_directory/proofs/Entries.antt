-- Entries of pages, one after the other.
use Rattle.std.proofs.Common.{◌≡◌, ℕ, zero, suc, ◌+◌, ◌*◌, ◌<◌, ◌≤◌, List, [], ◌∷◌, ◌++◌, length, take, drop, get_or, flat_map, Option, Some, None, refl, sym, ◌∙◌, ap, ap₂, append_assoc, arith}
use Rattle.std.specs.Prelude.{All}
use Rattle.std.proofs.lemmas.Grind.{flat_map-append}
use Rattle.std.proofs.lemmas.List.{take_more, append-nil, length-append, length-take, length-drop, take-append-drop}
use Rattle.std.proofs.lemmas.List.Elements.{All-nil, All-cons, All-head, All-tail}
use Rattle.rs_directory.proofs.FromBelow.{AreBytes, alone}
use Rattle.rs_page.specs.declared.place.PageRef.{PageRef}
use Rattle.rs_directory.specs.Directory.{ref_bytes, IsLawfulRef, BeginsWith}
use Rattle.rs_directory.specs.declared.parts.PageCounts.{PageCounts}
use Rattle.rs_directory.specs.Reading.{page_entry_at, pages_of, counts_of, AreListsOf}
use Rattle.rs_directory.proofs.Pieces.{length-ref_bytes, length-entries}
use Rattle.rs_directory.proofs.PartLaws.{AreLawfulCounts, ref, ref_none}

-- one entry more was written
pub refs_more : (refs : List PageRef) (i : ℕ) (d : PageRef) → i < length refs
    → flat_map ref_bytes (take (i + 1) refs) ≡ flat_map ref_bytes (take i refs) ++ ref_bytes (get_or refs i d)
refs_more refs i d lt =
    ap (flat_map ref_bytes) (take_more refs i d lt) ∙ flat_map-append ref_bytes (take i refs) (get_or refs i d ∷ [])
    ∙ ap (λ xs. flat_map ref_bytes (take i refs) ++ xs) (append-nil (ref_bytes (get_or refs i d)))

-- so the entries up to it were
pub one_appended : (refs : List PageRef) (i : ℕ) (entry : PageRef) (old out new : List ℕ) → IsLawfulRef entry → i < length refs → entry ≡ get_or refs i entry
    → out ≡ old ++ flat_map ref_bytes (take i refs) → new ≡ out ++ ref_bytes entry → new ≡ old ++ flat_map ref_bytes (take (i + 1) refs)
one_appended refs i entry old out new lawful lt is before last =
    last ∙ ap₂ (λ xs r. xs ++ ref_bytes r) before is ∙ append_assoc old (flat_map ref_bytes (take i refs)) (ref_bytes (get_or refs i entry))
    ∙ ap (λ xs. old ++ xs) (sym (refs_more refs i entry lt))

-- one entry more was read
pub read_more : (refs : List PageRef) (r : PageRef) (bytes rest after : List ℕ) → bytes ≡ flat_map ref_bytes refs ++ rest → rest ≡ ref_bytes r ++ after
    → bytes ≡ flat_map ref_bytes (refs ++ r ∷ []) ++ after
read_more refs r bytes rest after found next =
    let front : flat_map ref_bytes (refs ++ r ∷ []) ≡ flat_map ref_bytes refs ++ ref_bytes r =
    flat_map-append ref_bytes refs (r ∷ []) ∙ ap (λ xs. flat_map ref_bytes refs ++ xs) (append-nil (ref_bytes r)) in
    found ∙ ap (λ xs. flat_map ref_bytes refs ++ xs) next ∙ sym (append_assoc (flat_map ref_bytes refs) (ref_bytes r) after)
    ∙ ap (λ xs. xs ++ after) (sym front)

no_bytes : (xs : List ℕ) → length xs ≡ 0 → xs ≡ []
no_bytes [] e = refl
no_bytes (x ∷ xs) e = absurd (omega arith)

-- from bytes for n entries, n were read, if fewer bytes are left than an entry has
pub all_read : (refs : List PageRef) (n : ℕ) (bytes rest : List ℕ) → All IsLawfulRef refs → bytes ≡ flat_map ref_bytes refs ++ rest → length rest < 44
    → length bytes ≡ 44 * n → (length refs ≡ n) × (bytes ≡ flat_map ref_bytes refs)
all_read refs n bytes rest lawful found fewer size =
    let whole : 44 * n ≡ 44 * length refs + length rest =
    omega (arith, size, ap length found, length-append (flat_map ref_bytes refs) rest, length-entries refs lawful) in
    let none : rest ≡ [] = no_bytes rest (omega arith) in
    (omega arith, found ∙ ap (λ xs. flat_map ref_bytes refs ++ xs) none ∙ append-nil (flat_map ref_bytes refs))

pub same_counts : (catalogue changes published : List PageRef) (n : PageCounts) → length catalogue ≡ n.catalogue → length changes ≡ n.changes
    → length published ≡ n.published → counts_of catalogue changes published ≡ n
same_counts catalogue changes published n e f g =
    let made : ℕ → ℕ → ℕ → PageCounts = λ x y z. record { catalogue = x; changes = y; published = z } in
    ap₂ (λ x y. made x y (length published)) e f ∙ ap (made n.catalogue n.changes) g

-- three lists of entries, read from their own parts of the bytes
pub three_read : (n : PageCounts) (bytes front after mid last : List ℕ) (a b c : List PageRef) (r s t : List ℕ) → AreLawfulCounts n → length bytes ≡ 44 * pages_of n
    → front ≡ take (44 * n.catalogue) bytes → after ≡ drop (44 * n.catalogue) bytes → mid ≡ take (44 * n.changes) after → last ≡ drop (44 * n.changes) after
    → All IsLawfulRef a → front ≡ flat_map ref_bytes a ++ r → length r < 44 → All IsLawfulRef b → mid ≡ flat_map ref_bytes b ++ s → length s < 44
    → All IsLawfulRef c → last ≡ flat_map ref_bytes c ++ t → length t < 44 → AreListsOf n bytes a b c
three_read n bytes front after mid last a b c r s t few size e f g h la fa sa lb fb sb lc fc sc =
    let front_size : length front ≡ 44 * n.catalogue = omega (arith, ap length e, length-take (44 * n.catalogue) bytes) in
    let after_size : length after ≡ 44 * (n.changes + n.published) = omega (arith, ap length f, length-drop (44 * n.catalogue) bytes) in
    let mid_size : length mid ≡ 44 * n.changes = omega (arith, ap length g, length-take (44 * n.changes) after) in
    let last_size : length last ≡ 44 * n.published = omega (arith, ap length h, length-drop (44 * n.changes) after) in
    let ra = all_read a n.catalogue front r la fa sa front_size in
    let rb = all_read b n.changes mid s lb fb sb mid_size in
    let rc = all_read c n.published last t lc fc sc last_size in
    record {
      of_catalogue = record { each = la; count = omega (arith, ra.0, few.catalogue) };
      of_changes = record { each = lb; count = omega (arith, rb.0, few.changes) };
      of_published = record { each = lc; count = omega (arith, rc.0, few.published) };
      counts = same_counts a b c n ra.0 rb.0 rc.0;
      spelled = sym (take-append-drop (44 * n.catalogue) bytes)
          ∙ ap₂ (λ xs ys. xs ++ ys) (sym e ∙ ra.1) (sym f ∙ sym (take-append-drop (44 * n.changes) after) ∙ ap₂ (λ xs ys. xs ++ ys) (sym g ∙ rb.1) (sym h ∙ rc.1));
    }

-- n entries that bytes begin with
pub record BeginsWithEntries (n : ℕ) (bytes : List ℕ) : Type 0 where
  pub refs : List PageRef
  pub count : length refs ≡ n
  pub lawful : All IsLawfulRef refs
  pub rest : List ℕ
  pub parts : bytes ≡ flat_map ref_bytes refs ++ rest
  pub rest_bytes : AreBytes rest

one_before : (r : PageRef) (refs : List PageRef) (bytes after rest : List ℕ) → bytes ≡ ref_bytes r ++ after → after ≡ flat_map ref_bytes refs ++ rest
    → bytes ≡ flat_map ref_bytes (r ∷ refs) ++ rest
one_before r refs bytes after rest first more =
    first ∙ ap (λ xs. ref_bytes r ++ xs) more ∙ sym (append_assoc (ref_bytes r) (flat_map ref_bytes refs) rest)

-- bytes of n entries or more begin with n of them
pub some_entries : (n : ℕ) (bytes : List ℕ) → AreBytes bytes → 44 * n ≤ length bytes → BeginsWithEntries n bytes
some_entries zero bytes fits size =
    record { refs = []; count = refl; lawful = All-nil IsLawfulRef; rest = bytes; parts = refl; rest_bytes = fits }
some_entries (suc n) bytes fits size = next (λ rest. some_entries n rest) (page_entry_at bytes) refl
  where
    next : ((rest : List ℕ) → AreBytes rest → 44 * n ≤ length rest → BeginsWithEntries n rest) → (o : Option (PageRef × List ℕ)) → page_entry_at bytes ≡ o
        → BeginsWithEntries (suc n) bytes
    next all None e = absurd (omega (arith, ref_none bytes fits e))
    next all (Some x) e =
        let t = ref.takes bytes x fits e in
        let more = all x.1 t.rest (omega (arith, size, ap length t.parts, length-append (ref_bytes x.0) x.1, length-ref_bytes x.0 t.lawful)) in
        record {
          refs = x.0 ∷ more.refs;
          count = omega (arith, more.count);
          lawful = All-cons IsLawfulRef x.0 more.refs t.lawful more.lawful;
          rest = more.rest;
          parts = one_before x.0 more.refs bytes x.1 more.rest t.parts more.parts;
          rest_bytes = more.rest_bytes;
        }

-- bytes that an entry was read off begin with it
pub begins_with : (bytes : List ℕ) (page : PageRef) (after : List ℕ) → AreBytes bytes → page_entry_at bytes ≡ Some (page, after) → BeginsWith bytes page after
begins_with bytes page after fits read = let taken = ref.takes bytes (page, after) fits read in record { lawful = taken.lawful; spelled = taken.parts }

-- one entry is read in one way
pub same_entry : (r s : PageRef) (x y : List ℕ) → IsLawfulRef r → IsLawfulRef s → ref_bytes r ++ x ≡ ref_bytes s ++ y → (r ≡ s) × (x ≡ y)
same_entry r s x y = alone page_entry_at ref_bytes IsLawfulRef ref r s x y

-- equally many entries are read in one way
pub same_refs : (a b : List PageRef) (x y : List ℕ) → All IsLawfulRef a → All IsLawfulRef b → length a ≡ length b
    → flat_map ref_bytes a ++ x ≡ flat_map ref_bytes b ++ y → (a ≡ b) × (x ≡ y)
same_refs [] [] x y a_lawful b_lawful long same = (refl, same)
same_refs [] (s ∷ b) x y a_lawful b_lawful long same = absurd (omega arith)
same_refs (r ∷ a) [] x y a_lawful b_lawful long same = absurd (omega arith)
same_refs (r ∷ a) (s ∷ b) x y a_lawful b_lawful long same =
    let first = same_entry r s (flat_map ref_bytes a ++ x) (flat_map ref_bytes b ++ y)
    (All-head IsLawfulRef r a a_lawful) (All-head IsLawfulRef s b b_lawful)
    (sym (append_assoc (ref_bytes r) (flat_map ref_bytes a) x) ∙ same ∙ append_assoc (ref_bytes s) (flat_map ref_bytes b) y) in
    let more = same_refs a b x y (All-tail IsLawfulRef r a a_lawful) (All-tail IsLawfulRef s b b_lawful) (omega arith) first.1 in
    (ap₂ (λ z zs. z ∷ zs) first.0 more.0, more.1)

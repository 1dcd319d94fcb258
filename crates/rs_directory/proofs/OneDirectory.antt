-- Bytes are the directory of one header and of one list of entries per kind.
use Rattle.std.proofs.Common.{◌≡◌, ℕ, ◌+◌, ◌*◌, Bool, true, false, cond, eqb, List, [], ◌++◌, length, flat_map, Some, None, refl, sym, ◌∙◌, ap, ap₂, subst, eq-eqb, arith}
use Rattle.std.specs.Prelude.{All, IsTrue}
use Rattle.std.proofs.lemmas.Bool.{eqb-true}
use Rattle.std.proofs.lemmas.List.{append-nil, length-append}
use Rattle.rs_record.specs.Base.{is_base}
use Rattle.rs_directory.proofs.FromBelow.{AreBytes, Takes, bind_some, guard_some, some_is}
use Rattle.rs_page.specs.declared.place.PageRef.{PageRef}
use Rattle.rs_directory.specs.declared.header.Header.{Header}
use Rattle.rs_directory.specs.declared.parts.PageCounts.{PageCounts}
use Rattle.rs_directory.specs.Directory.{header_bytes, ref_bytes, directory_bytes, directory_length, written_format, IsDirectory, IsNoDirectory, IsLawfulHeader, IsLawfulRef, AreLawfulRefs}
use Rattle.rs_directory.specs.Laws.{DirectoryReadsOnce}
use Rattle.rs_directory.specs.Reading.{header_at, counts_at, entries_at, pages_of, counts_of, all_entries, AreListsOf}
use Rattle.rs_directory.proofs.Pieces.{length-header_bytes, length-entries}
use Rattle.rs_directory.proofs.Headers.{HasLawfulNumbers, header}
use Rattle.rs_directory.proofs.PartLaws.{AreLawfulCounts, counts_bytes, counts}
use Rattle.rs_directory.proofs.Entries.{all_read, some_entries, same_counts, same_refs}

-- the bytes after a header
abbrev pub after_header : List PageRef → List PageRef → List PageRef → List ℕ
after_header catalogue changes published = counts_bytes (counts_of catalogue changes published) ++ all_entries catalogue changes published

-- a directory in its parts
pub directory_parts : (version : ℕ) (h : Header) (catalogue changes published : List PageRef)
    → directory_bytes version h catalogue changes published ≡ header_bytes version h ++ after_header catalogue changes published
directory_parts version h catalogue changes published =
    ap (λ xs. header_bytes version h ++ (counts_bytes (counts_of catalogue changes published) ++ (flat_map ref_bytes catalogue ++ (flat_map ref_bytes changes ++ xs))))
    (append-nil (flat_map ref_bytes published))

pub has_numbers : (version : ℕ) (h : Header) → IsLawfulHeader version h → HasLawfulNumbers version h
has_numbers version h lawful =
    record {
      limit = record { low = lawful.low; high = lawful.high };
      start = lawful.start;
      last = lawful.last;
      number = lawful.number;
      at = lawful.at;
      first = lawful.first;
      begin = lawful.begin;
      untold = lawful.untold;
    }

pub lawful_header : (version : ℕ) (h : Header) → IsTrue (is_base h.base) → HasLawfulNumbers version h → IsLawfulHeader version h
lawful_header version h base has =
    record {
      base = base;
      low = has.limit.low;
      high = has.limit.high;
      start = has.start;
      last = has.last;
      number = has.number;
      at = has.at;
      first = has.first;
      begin = has.begin;
      untold = has.untold;
    }

-- the header of a directory is read
pub header_read : (version : ℕ) (bytes : List ℕ) (h : Header) (catalogue changes published : List PageRef) → IsLawfulHeader version h
    → bytes ≡ directory_bytes version h catalogue changes published → header_at version bytes ≡ Some (h, after_header catalogue changes published)
header_read version bytes h catalogue changes published lawful is =
    ap (header_at version) (is ∙ directory_parts version h catalogue changes published)
    ∙ (header version).again h (after_header catalogue changes published) (has_numbers version h lawful)

-- the length of all entries
length-all_entries : (catalogue changes published : List PageRef) → AreLawfulRefs catalogue → AreLawfulRefs changes → AreLawfulRefs published
    → length (all_entries catalogue changes published) ≡ 44 * pages_of (counts_of catalogue changes published)
length-all_entries catalogue changes published of_a of_b of_c =
    omega (
      arith,
      length-append (flat_map ref_bytes catalogue) (flat_map ref_bytes changes ++ flat_map ref_bytes published),
      length-append (flat_map ref_bytes changes) (flat_map ref_bytes published),
      length-entries catalogue of_a.each,
      length-entries changes of_b.each,
      length-entries published of_c.each,
    )

-- the length of a directory, as it is written
pub length-directory_bytes : (h : Header) (catalogue changes published : List PageRef) → AreLawfulRefs catalogue → AreLawfulRefs changes
    → AreLawfulRefs published
    → length (directory_bytes written_format h catalogue changes published) ≡ directory_length h (length catalogue + length changes + length published)
length-directory_bytes h catalogue changes published of_a of_b of_c =
    omega (
      arith,
      ap length (directory_parts written_format h catalogue changes published),
      length-append (header_bytes written_format h) (after_header catalogue changes published),
      length-append (counts_bytes (counts_of catalogue changes published)) (all_entries catalogue changes published),
      length-header_bytes h,
      length-all_entries catalogue changes published of_a of_b of_c,
    )

-- the rest of a directory is read
pub entries_read : (catalogue changes published : List PageRef) → AreLawfulRefs catalogue → AreLawfulRefs changes → AreLawfulRefs published
    → entries_at (after_header catalogue changes published) ≡ Some (counts_of catalogue changes published, all_entries catalogue changes published)
unfolding entries_at
entries_read catalogue changes published of_a of_b of_c =
    let n = counts_of catalogue changes published in
    let e = all_entries catalogue changes published in
    let exact : eqb (length e) (44 * pages_of n) ≡ true = eq-eqb _ _ (length-all_entries catalogue changes published of_a of_b of_c) in
    rw (counts.again n e (record { catalogue = of_a.count; changes = of_b.count; published = of_c.count }), exact) refl

-- these counts were read after a header, and the rest has exactly the length of their entries
pub record HasEntries (bytes : List ℕ) (x : PageCounts × List ℕ) : Type 0 where
  pub takes : Takes counts_bytes AreLawfulCounts bytes x
  pub size : length x.1 ≡ 44 * pages_of x.0

pub entries_takes : (bytes : List ℕ) (x : PageCounts × List ℕ) → AreBytes bytes → entries_at bytes ≡ Some x → HasEntries bytes x
unfolding entries_at
entries_takes bytes x fits e =
    let a = bind_some (counts_at bytes) (λ n. cond (eqb (length n.1) (44 * pages_of n.0)) (Some n) None) x e in
    let g = guard_some (eqb (length a.0.1) (44 * pages_of a.0.0)) a.0 x a.2 in
    subst (HasEntries bytes) g.1 (record { takes = counts.takes bytes a.0 fits a.1; size = eqb-true _ _ g.0 })

-- Bytes are a directory of a version of at most one header and of at most one list of entries per kind.
pub one_directory : DirectoryReadsOnce
one_directory version h h' catalogue catalogue' changes changes' published published' of of' same =
    let bytes = directory_bytes version h catalogue changes published in
    let head : (h, after_header catalogue changes published) ≡ (h', after_header catalogue' changes' published') =
    some_is _ _ (sym (header_read version bytes h catalogue changes published of.of_header refl) ∙ header_read version bytes h' catalogue' changes' published' of'.of_header same) in
    let rest : (counts_of catalogue changes published, all_entries catalogue changes published) ≡
    (counts_of catalogue' changes' published', all_entries catalogue' changes' published') =
    some_is _ _ (sym (entries_read catalogue changes published of.of_catalogue of.of_changes of.of_published) ∙ ap entries_at (ap (λ x. x.1) head)
    ∙ entries_read catalogue' changes' published' of'.of_catalogue of'.of_changes of'.of_published) in
    let first = same_refs catalogue catalogue' _ _ of.of_catalogue.each of'.of_catalogue.each (ap (λ x. x.0.catalogue) rest) (ap (λ x. x.1) rest) in
    let second = same_refs changes changes' _ _ of.of_changes.each of'.of_changes.each (ap (λ x. x.0.changes) rest) first.1 in
    let third = same_refs published published' [] [] of.of_published.each of'.of_published.each (ap (λ x. x.0.published) rest)
    (append-nil _ ∙ second.1 ∙ sym (append-nil _)) in
    (ap (λ x. x.0) head, first.0, second.0, third.0)

-- lists of entries, whose lengths are the numbers of pages
record HasLists (n : PageCounts) (bytes : List ℕ) : Type 0 where
  catalogue : List PageRef
  changes : List PageRef
  published : List PageRef
  are : AreListsOf n bytes catalogue changes published

entries_joined : (a b c : List PageRef) (entries x y : List ℕ) → entries ≡ flat_map ref_bytes a ++ x → x ≡ flat_map ref_bytes b ++ y → y ≡ flat_map ref_bytes c
    → entries ≡ all_entries a b c
entries_joined a b c entries x y e f g = e ∙ ap (λ xs. flat_map ref_bytes a ++ xs) (f ∙ ap (λ xs. flat_map ref_bytes b ++ xs) g)

-- the number of bytes after n entries
after_entries : (refs : List PageRef) (n : ℕ) (bytes rest : List ℕ) → length refs ≡ n → All IsLawfulRef refs → bytes ≡ flat_map ref_bytes refs ++ rest
    → length bytes ≡ 44 * n + length rest
after_entries refs n bytes rest count lawful parts =
    omega (arith, count, ap length parts, length-append (flat_map ref_bytes refs) rest, length-entries refs lawful)

some_lists : (n : PageCounts) (bytes : List ℕ) → AreBytes bytes → AreLawfulCounts n → length bytes ≡ 44 * pages_of n → HasLists n bytes
some_lists n bytes fits lawful size =
    let a = some_entries n.catalogue bytes fits (omega arith) in
    let a_size = after_entries a.refs n.catalogue bytes a.rest a.count a.lawful a.parts in
    let b = some_entries n.changes a.rest a.rest_bytes (omega arith) in
    let b_size = after_entries b.refs n.changes a.rest b.rest b.count b.lawful b.parts in
    let c = some_entries n.published b.rest b.rest_bytes (omega arith) in
    let c_size = after_entries c.refs n.published b.rest c.rest c.count c.lawful c.parts in
    let last = all_read c.refs n.published b.rest c.rest c.lawful c.parts (omega arith) (omega arith) in
    record {
      catalogue = a.refs;
      changes = b.refs;
      published = c.refs;
      are = record {
        of_catalogue = record { each = a.lawful; count = omega (arith, a.count, lawful.catalogue) };
        of_changes = record { each = b.lawful; count = omega (arith, b.count, lawful.changes) };
        of_published = record { each = c.lawful; count = omega (arith, c.count, lawful.published) };
        counts = same_counts a.refs b.refs c.refs n a.count b.count c.count;
        spelled = entries_joined a.refs b.refs c.refs bytes a.rest b.rest a.parts b.parts last.1;
      };
    }

-- ---- the meaning of a refusal

none_is : {A : Type 0} (x : A) → None ≡ Some x → ⊥
none_is x e = absurd cc

false_is : false ≡ true → ⊥
false_is e = absurd cc

module _ (version : ℕ) (bytes : List ℕ) (fits : AreBytes bytes) where
  pub no_header : header_at version bytes ≡ None → IsNoDirectory version bytes
  no_header e h catalogue changes published is =
      none_is _ (sym e ∙ header_read version bytes h catalogue changes published is.lawful.of_header is.spelled)

  pub no_entries : (h : Header) (rest : List ℕ) → header_at version bytes ≡ Some (h, rest) → entries_at rest ≡ None → IsNoDirectory version bytes
  no_entries h rest e f h' catalogue changes published is =
      let same : (h, rest) ≡ (h', after_header catalogue changes published) = some_is _ _ (sym e ∙ header_read version bytes h' catalogue changes published is.lawful.of_header is.spelled) in
      none_is _ (sym f ∙ ap entries_at (ap (λ x. x.1) same) ∙ entries_read catalogue changes published is.lawful.of_catalogue is.lawful.of_changes is.lawful.of_published)

  pub no_base : (h : Header) (rest : List ℕ) → header_at version bytes ≡ Some (h, rest) → is_base h.base ≡ false → IsNoDirectory version bytes
  no_base h rest e f h' catalogue changes published is =
      let same : (h, rest) ≡ (h', after_header catalogue changes published) = some_is _ _ (sym e ∙ header_read version bytes h' catalogue changes published is.lawful.of_header is.spelled) in
      false_is (sym f ∙ ap (λ x. is_base x.0.base) same ∙ is.lawful.of_header.base)

  -- the bytes are a directory of the values read from them, if the base is lawful
  pub is_directory : (h : Header) (rest : List ℕ) (n : PageCounts) (entries : List ℕ) (catalogue changes published : List PageRef)
      → header_at version bytes ≡ Some (h, rest) → entries_at rest ≡ Some (n, entries) → IsTrue (is_base h.base)
      → AreListsOf n entries catalogue changes published → IsDirectory version bytes h catalogue changes published
  is_directory h rest n entries catalogue changes published e f base are =
      let t = (header version).takes bytes (h, rest) fits e in
      let u = entries_takes rest (n, entries) t.rest f in
      record {
        lawful = record { of_header = lawful_header version h base t.lawful; of_catalogue = are.of_catalogue; of_changes = are.of_changes; of_published = are.of_published };
        spelled = t.parts ∙ ap (λ xs. header_bytes version h ++ xs) (u.takes.parts ∙ ap₂ (λ m xs. counts_bytes m ++ xs) (sym are.counts) are.spelled)
            ∙ sym (directory_parts version h catalogue changes published);
      }

  -- if the parts were read and the base is lawful, the bytes are some lawful directory
  pub not_none : (h : Header) (rest : List ℕ) (n : PageCounts) (entries : List ℕ) → header_at version bytes ≡ Some (h, rest) → entries_at rest ≡ Some (n, entries)
      → IsTrue (is_base h.base) → IsNoDirectory version bytes → ⊥
  not_none h rest n entries e f base none =
      let t = (header version).takes bytes (h, rest) fits e in
      let u = entries_takes rest (n, entries) t.rest f in
      let all = some_lists n entries u.takes.rest u.takes.lawful u.size in
      none h all.catalogue all.changes all.published
      (is_directory h rest n entries all.catalogue all.changes all.published e f base all.are)

  -- as many bytes of entries as the numbers of pages say
  pub size_read : (h : Header) (rest : List ℕ) (n : PageCounts) (entries : List ℕ) → header_at version bytes ≡ Some (h, rest) → entries_at rest ≡ Some (n, entries)
      → length entries ≡ 44 * pages_of n
  size_read h rest n entries e f = (entries_takes rest (n, entries) ((header version).takes bytes (h, rest) fits e).rest f).size

  -- if the parts were read, only a bad base is left
  pub bad_base : (h : Header) (rest : List ℕ) (n : PageCounts) (entries : List ℕ) → header_at version bytes ≡ Some (h, rest) → entries_at rest ≡ Some (n, entries)
      → IsNoDirectory version bytes → is_base h.base ≡ false
  bad_base h rest n entries e f none = by_cases (is_base h.base) refl
    where
      by_cases : (b : Bool) → is_base h.base ≡ b → is_base h.base ≡ false
      by_cases true is = absurd (not_none h rest n entries e f is none)
      by_cases false is = is

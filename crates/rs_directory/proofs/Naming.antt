-- The pages that a directory names, in its bytes.
use Rattle.std.proofs.Common.{◌≡◌, ℕ, ◌+◌, ◌≤◌, Bool, true, false, List, ◌++◌, length, get_or, drop, flat_map, refl, sym, ◌∙◌, ap, subst, arith, append_assoc}
use Rattle.std.specs.Prelude.{All, if◌then◌else◌, nat_eq}
use Rattle.std.proofs.lemmas.Grind.{flat_map-append}
use Rattle.std.proofs.lemmas.List.{length-append, drop_at}
use Rattle.std.proofs.lemmas.List.Elements.{All-append}
use Rattle.rs_page.specs.declared.place.PageRef.{PageRef}
use Rattle.rs_directory.specs.declared.header.Header.{Header}
use Rattle.rs_directory.specs.Directory.{history_bytes, header_bytes, ref_bytes, IsLawfulRef, Names}
use Rattle.rs_directory.proofs.PartLaws.{counts_bytes}
use Rattle.rs_directory.specs.Reading.{counts_of, all_entries}
use Rattle.rs_directory.proofs.OneDirectory.{directory_parts}

-- the number of bytes before the entries, without the base
abbrev pub others : Bool → ℕ
others untold = if untold then 47 else 63

-- the length of the fields that version 2 adds
length-history : (version : ℕ) (h : Header) → length (history_bytes version h) + 47 ≡ others (nat_eq version 1)
length-history version h = by_cases (nat_eq version 1) refl
  where
    by_cases : (untold : Bool) → nat_eq version 1 ≡ untold → length (history_bytes version h) + 47 ≡ others (nat_eq version 1)
    by_cases true is = rw is refl
    by_cases false is = rw is refl

-- the length of a header
length-header : (version : ℕ) (h : Header) → length (header_bytes version h) + 12 ≡ others (nat_eq version 1) + length h.base
length-header version h = simp length-append (omega (arith, length-history version h))

-- the length of the base is in byte 2
pub base_at : (version : ℕ) (bytes : List ℕ) (pages : List PageRef) (names : Names version bytes pages) → get_or bytes 2 0 ≡ length names.header.base
base_at version bytes pages names = ap (λ (l : List ℕ). get_or l 2 0) names.directory.spelled

-- the bytes before the entries
abbrev front : ℕ → Header → List PageRef → List PageRef → List PageRef → List ℕ
front version h catalogue changes published = header_bytes version h ++ counts_bytes (counts_of catalogue changes published)

in_parts : (version : ℕ) (bytes : List ℕ) (pages : List PageRef) (names : Names version bytes pages)
    → bytes ≡ front version names.header names.catalogue names.changes names.published ++ flat_map ref_bytes pages
in_parts version bytes pages names =
    let n = names in
    let entries : flat_map ref_bytes pages ≡ all_entries n.catalogue n.changes n.published =
    ap (flat_map ref_bytes) n.all ∙ flat_map-append ref_bytes n.catalogue (n.changes ++ n.published)
    ∙ ap (λ (l : List ℕ). flat_map ref_bytes n.catalogue ++ l) (flat_map-append ref_bytes n.changes n.published) in
    n.directory.spelled ∙ directory_parts version n.header n.catalogue n.changes n.published
    ∙ sym (append_assoc (header_bytes version n.header) (counts_bytes (counts_of n.catalogue n.changes n.published)) (all_entries n.catalogue n.changes n.published))
    ∙ ap (λ (l : List ℕ). front version n.header n.catalogue n.changes n.published ++ l) (sym entries)

front_length : (version : ℕ) (bytes : List ℕ) (pages : List PageRef) (names : Names version bytes pages)
    → length (front version names.header names.catalogue names.changes names.published) ≡ others (nat_eq version 1) + get_or bytes 2 0
front_length version bytes pages names =
    omega (
      arith,
      base_at version bytes pages names,
      length-header version names.header,
      length-append (header_bytes version names.header) (counts_bytes (counts_of names.catalogue names.changes names.published)),
    )

-- so the entries follow it.
pub entries_behind : (version : ℕ) (bytes : List ℕ) (pages : List PageRef) → Names version bytes pages → drop (others (nat_eq version 1) + get_or bytes 2 0) bytes ≡ flat_map ref_bytes pages
entries_behind version bytes pages names =
    ap (drop (others (nat_eq version 1) + get_or bytes 2 0)) (in_parts version bytes pages names)
    ∙ drop_at (front version names.header names.catalogue names.changes names.published) (flat_map ref_bytes pages) (others (nat_eq version 1) + get_or bytes 2 0)
    (front_length version bytes pages names)

pub entries_within : (version : ℕ) (bytes : List ℕ) (pages : List PageRef) → Names version bytes pages → others (nat_eq version 1) + get_or bytes 2 0 ≤ length bytes
entries_within version bytes pages names =
    omega (
      arith,
      ap length (in_parts version bytes pages names),
      front_length version bytes pages names,
      length-append (front version names.header names.catalogue names.changes names.published) (flat_map ref_bytes pages),
    )

-- All pages that are named are lawful.
pub are_lawful : (version : ℕ) (bytes : List ℕ) (pages : List PageRef) → Names version bytes pages → All IsLawfulRef pages
are_lawful version bytes pages names =
    subst (All IsLawfulRef) (sym names.all)
    (All-append IsLawfulRef names.catalogue (names.changes ++ names.published) names.directory.lawful.of_catalogue.each
    (All-append IsLawfulRef names.changes names.published names.directory.lawful.of_changes.each names.directory.lawful.of_published.each))

-- The directory of a source, to which its root points, and its bytes on the disk.
use Rattle.std.specs.Prelude.{◌≡◌, ◌<◌, ◌≤◌, ◌+◌, ◌*◌, ◌^◌, ℕ, nat_eq, if◌then◌else◌, List, [], ◌∷◌, ◌++◌, length, flat_map, All, IsTrue}
use Rattle.std.specs.List.{concat}
use Rattle.std.specs.Int.{w16, w32, w64, to_be_bytes}
use Rattle.rs_time.specs.Moment.{IsMoment}
use Rattle.rs_record.specs.Base.{is_base}
use Rattle.rs_record.specs.Format.{counted_text}
use Rattle.rs_page.specs.declared.place.PageRef.{PageRef}
use Rattle.rs_directory.specs.declared.header.Header.{Header}

-- the fields that version 2 adds to version 1: the number of the first kept part of the Change List, and the moment at
-- which the kept history begins, in 8 bytes each
abbrev pub history_bytes : ℕ → Header → List ℕ
history_bytes version h = if nat_eq version 1 then [] else concat (to_be_bytes w64 h.first ∷ to_be_bytes w64 h.begin ∷ [])

-- limit in 2 bytes; the base, after its length in one; start, last, publication number and its moment in 8 bytes each;
-- then the fields that version 2 adds. All numbers are big endian.
abbrev pub header_bytes : ℕ → Header → List ℕ
header_bytes version h =
    concat
    (to_be_bytes w16 h.limit ∷ counted_text h.base ∷ to_be_bytes w64 h.start ∷ to_be_bytes w64 h.last
    ∷ to_be_bytes w64 h.number ∷ to_be_bytes w64 h.at ∷ history_bytes version h ∷ [])

-- an entry of a page: first block, number of blocks and length in 4 bytes each, SHA-256
abbrev pub ref_bytes : PageRef → List ℕ
ref_bytes r =
    concat (to_be_bytes w32 r.extent.first ∷ to_be_bytes w32 r.extent.blocks ∷ to_be_bytes w32 r.length ∷ r.sha256 ∷ [])

-- a number of entries in 4 bytes
abbrev pub count_bytes : List PageRef → List ℕ
count_bytes refs = to_be_bytes w32 (length refs)

-- A directory of a version: its header; the numbers of catalogue pages, change pages and published pages; then an entry
-- for every page, in this order. No byte follows.
abbrev pub directory_bytes : ℕ → Header → List PageRef → List PageRef → List PageRef → List ℕ
directory_bytes version h catalogue changes published =
    concat
    (header_bytes version h ∷ count_bytes catalogue ∷ count_bytes changes ∷ count_bytes published
    ∷ flat_map ref_bytes catalogue ∷ flat_map ref_bytes changes ∷ flat_map ref_bytes published ∷ [])

-- the version of the format that is written
abbrev pub written_format : ℕ
written_format = 2

-- the length in bytes of a directory with this number of entries, as it is written
abbrev pub directory_length : Header → ℕ → ℕ
directory_length h entries = 63 + length h.base + 44 * entries

-- no part was dropped, and the kept history begins with the source
pub record HasAllHistory (h : Header) : Type 0 where
  pub first : h.first ≡ 0
  pub begin : h.begin ≡ h.start

-- every header of a version has a lawful base, a limit from 2 to 4,000, moments that exist, and numbers of 64 bits; and
-- in version 1 no part was dropped
pub record IsLawfulHeader (version : ℕ) (h : Header) : Type 0 where
  pub base : IsTrue (is_base h.base)
  pub low : 2 ≤ h.limit
  pub high : h.limit ≤ 4000
  pub start : IsMoment h.start
  pub last : IsMoment h.last
  pub number : h.number < 2 ^ 64
  pub at : IsMoment h.at
  pub first : h.first < 2 ^ 64
  pub begin : IsMoment h.begin
  pub untold : version ≡ 1 → HasAllHistory h

-- every page entry has numbers of 32 bits and a digest of 32 bytes
pub record IsLawfulRef (r : PageRef) : Type 0 where
  pub first : r.extent.first < 2 ^ 32
  pub blocks : r.extent.blocks < 2 ^ 32
  pub len : r.length < 2 ^ 32
  pub sha256 : length r.sha256 ≡ 32

-- entries that a directory can have: fewer than 2^32 of a kind
pub record AreLawfulRefs (refs : List PageRef) : Type 0 where
  pub each : All IsLawfulRef refs
  pub count : length refs < 2 ^ 32

-- a header and entries that a directory of a version can have
pub record AreLawful (version : ℕ) (h : Header) (catalogue changes published : List PageRef) : Type 0 where
  pub of_header : IsLawfulHeader version h
  pub of_catalogue : AreLawfulRefs catalogue
  pub of_changes : AreLawfulRefs changes
  pub of_published : AreLawfulRefs published

-- Bytes are the directory of this header and these entries, in a version that can have them.
pub record IsDirectory (version : ℕ) (bytes : List ℕ) (h : Header) (catalogue changes published : List PageRef) : Type 0 where
  pub lawful : AreLawful version h catalogue changes published
  pub spelled : bytes ≡ directory_bytes version h catalogue changes published

-- bytes are no lawful directory of a version
abbrev pub IsNoDirectory : ℕ → List ℕ → Type 0
IsNoDirectory version bytes = (h : Header) (catalogue changes published : List PageRef) → ¬ IsDirectory version bytes h catalogue changes published

-- Bytes are a lawful directory of a version that names these pages: those of its three lists, one list after the other.
pub record Names (version : ℕ) (bytes : List ℕ) (pages : List PageRef) : Type 0 where
  pub header : Header
  pub catalogue : List PageRef
  pub changes : List PageRef
  pub published : List PageRef
  pub directory : IsDirectory version bytes header catalogue changes published
  pub all : pages ≡ catalogue ++ (changes ++ published)

-- Bytes begin with the entry of a page, and go on with these.
pub record BeginsWith (bytes : List ℕ) (page : PageRef) (after : List ℕ) : Type 0 where
  pub lawful : IsLawfulRef page
  pub spelled : bytes ≡ ref_bytes page ++ after

-- Bytes are the entries of these pages, one after the other.
pub record AreEntries (bytes : List ℕ) (pages : List PageRef) : Type 0 where
  pub lawful : All IsLawfulRef pages
  pub spelled : bytes ≡ flat_map ref_bytes pages

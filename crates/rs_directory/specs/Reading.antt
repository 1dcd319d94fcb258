-- Words of the readers' own contracts: a reader reads a part of a directory from the front of bytes, and gives a value
-- and the bytes after it, or no value. Directory states the promises of the public reader.
use Rattle.std.specs.Prelude.{◌≡◌, ℕ, ◌+◌, ◌*◌, ◌==◌, nat_eq, List, ◌++◌, length, flat_map, Option, Some, None, if◌then◌else◌}
use Rattle.std.specs.Int.{w16, w32, w64}
use Rattle.rs_record.specs.Reading.{◌>>=◌, piece_at, number_in, counted_at, moment_in}
use Rattle.rs_page.specs.declared.place.PageRef.{PageRef}
use Rattle.rs_directory.specs.declared.header.Header.{Header}
use Rattle.rs_directory.specs.declared.parts.HeaderFields.{HeaderFields}
use Rattle.rs_directory.specs.declared.parts.PageCounts.{PageCounts}
use Rattle.rs_directory.specs.Limit.{limit_of}
use Rattle.rs_directory.specs.Directory.{ref_bytes, AreLawfulRefs}

-- an item limit
unfoldable pub limit_at : List ℕ → Option (ℕ × List ℕ)
limit_at bytes = do
  items ← number_in w16 bytes
  limit ← limit_of items.0
  Some (limit, items.1)

-- the first kept part and the begin of the history; version 1 has neither: they are 0 and the start
unfoldable pub history_at : ℕ → ℕ → List ℕ → Option ((ℕ × ℕ) × List ℕ)
history_at version start bytes =
    if nat_eq version 1 then Some ((0, start), bytes)
    else (do
      first ← number_in w64 bytes
      begin ← moment_in first.1
      Some ((first.0, begin.0), begin.1))

-- a header of a version, whose base is any text
unfoldable pub header_at : ℕ → List ℕ → Option (Header × List ℕ)
header_at version bytes = do
  limit ← limit_at bytes
  base ← counted_at limit.1
  start ← moment_in base.1
  last ← moment_in start.1
  number ← number_in w64 last.1
  at ← moment_in number.1
  history ← history_at version start.0 at.1
  Some (
    record {
      base = base.0;
      limit = limit.0;
      start = start.0;
      last = last.0;
      number = number.0;
      at = at.0;
      first = history.0.0;
      begin = history.0.1;
    },
    history.1,
  )

-- the numbers of pages
unfoldable pub counts_at : List ℕ → Option (PageCounts × List ℕ)
counts_at bytes = do
  catalogue ← number_in w32 bytes
  changes ← number_in w32 catalogue.1
  published ← number_in w32 changes.1
  Some (record { catalogue = catalogue.0; changes = changes.0; published = published.0 }, published.1)

-- the number of pages
abbrev pub pages_of : PageCounts → ℕ
pages_of counts = counts.catalogue + counts.changes + counts.published

-- the numbers of entries of three lists
abbrev pub counts_of : List PageRef → List PageRef → List PageRef → PageCounts
counts_of catalogue changes published = record { catalogue = length catalogue; changes = length changes; published = length published }

-- the entries of three lists, one list after the other
abbrev pub all_entries : List PageRef → List PageRef → List PageRef → List ℕ
all_entries catalogue changes published = flat_map ref_bytes catalogue ++ (flat_map ref_bytes changes ++ flat_map ref_bytes published)

-- Bytes are the entries of three lists that a directory can have, and their lengths are the numbers of pages.
pub record AreListsOf (n : PageCounts) (bytes : List ℕ) (catalogue changes published : List PageRef) : Type 0 where
  pub of_catalogue : AreLawfulRefs catalogue
  pub of_changes : AreLawfulRefs changes
  pub of_published : AreLawfulRefs published
  pub counts : counts_of catalogue changes published ≡ n
  pub spelled : bytes ≡ all_entries catalogue changes published

-- an entry of a page
unfoldable pub page_entry_at : List ℕ → Option (PageRef × List ℕ)
page_entry_at bytes = do
  first ← number_in w32 bytes
  blocks ← number_in w32 first.1
  len ← number_in w32 blocks.1
  sha256 ← piece_at 32 len.1
  Some (record { extent = record { first = first.0; blocks = blocks.0 }; length = len.0; sha256 = sha256.0 }, sha256.1)

-- the numbers of pages, and the bytes of that many entries
unfoldable pub entries_at : List ℕ → Option (PageCounts × List ℕ)
entries_at bytes = do
  counts ← counts_at bytes
  if length counts.1 == 44 * pages_of counts.0 then Some counts else None

-- a header that was read, without the place of its base in memory
abbrev pub header_seen : HeaderFields → Header
header_seen h = record {
  base = h.base.now;
  limit = h.limit;
  start = h.start;
  last = h.last;
  number = h.number;
  at = h.at;
  first = h.first;
  begin = h.begin;
}

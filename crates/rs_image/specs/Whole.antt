-- The rules that a root and its lists keep, for every content of the disk.
use Rattle.std.specs.Prelude.{◌≡◌, ◌<◌, ◌≤◌, ◌-◌, ℕ, max, All, IfSome, MatchOption}
use Rattle.rs_body.specs.Blocks.{IsSized}
use Rattle.rs_commit.specs.declared.root.Root.{Root}
use Rattle.rs_record.specs.declared.record.Record.{Record}
use Rattle.rs_record.specs.declared.change.Change.{Change}
use Rattle.rs_record.specs.Limits.{longest_body}
use Rattle.rs_page.specs.Pages.{IsStored, extents_of, stored_refs}
use Rattle.rs_extent.specs.Extents.{AreApart}
use Rattle.rs_catalogue.specs.Catalogue.{records_of}
use Rattle.rs_changes.specs.History.{changes_of, last_of}
use Rattle.rs_directory.specs.declared.header.Header.{Header}
use Rattle.rs_image.specs.declared.contents.Contents.{Contents}
use Rattle.rs_image.specs.Reach.{reach, AreInside}

-- The moment of an item is after the first moment and at most the second one, ..
pub record IsWithin (low high moment : ℕ) : Type 0 where
  pub after : low < moment
  pub up_to : moment ≤ high

-- .. and of a record also: no body is longer than a body may be, and its extent has exactly its blocks.
pub record IsSoundRecord (low high : ℕ) (r : Record) : Type 0 where
  pub moment : IsWithin low high r.moment
  pub body : r.length ≤ longest_body
  pub sized : IsSized r.extent r.length

-- A change is within these moments, and its body is at most as long as a body may be.
pub record IsSoundChange (low high : ℕ) (c : Change) : Type 0 where
  pub moment : IsWithin low high c.moment
  pub body : IfSome c.facts (λ facts. facts.length ≤ longest_body)

-- The kept history begins at formatting or later. No more parts were dropped than moments lie between. Where no part
-- was dropped, it begins at formatting.
pub record HasFirstPart (h : Header) : Type 0 where
  pub begun : h.start ≤ h.begin
  pub first : h.first ≤ h.begin - h.start
  pub none_dropped : h.first ≡ 0 → h.begin ≡ h.start

-- Formatting is no later than the latest publication, which is no later than the last command; and that is the later
-- one of the publication and the last change. The kept history begins no later than the publication, and with a part
-- that can be its first.
pub record AreMoments (h : Header) (c : Contents) : Type 0 where
  pub start : h.start ≤ h.at
  pub at : h.at ≤ h.last
  pub last : MatchOption (last_of (changes_of c.history.pages)) (h.last ≡ h.at) (λ change. h.last ≡ max h.at change.moment)
  pub kept : h.begin ≤ h.at
  pub history : HasFirstPart h

-- The rules that a root and its lists keep: all pages are stored; the moments are in order; the history has the
-- header's first number; every record and every change is sound, where a change is after the begin of the history, and
-- the published records are up to the publication; the directory has exactly its blocks; and the extents that the root
-- reaches lie on a disk of this many bytes after the slots, no two of them with a block in common, nor two published
-- pages.
pub record IsWhole (size : ℕ) (root : Root) (c : Contents) : Type 0 where
  pub catalogue : All IsStored c.catalogue
  pub history : All IsStored c.history.pages
  pub published : All IsStored c.published
  pub moments : AreMoments c.header c
  pub number : c.history.first ≡ c.header.first
  pub records : All (IsSoundRecord c.header.start c.header.last) (records_of c.catalogue)
  pub changes : All (IsSoundChange c.header.begin c.header.last) (changes_of c.history.pages)
  pub listed : All (IsSoundRecord c.header.start c.header.at) (records_of c.published)
  pub directory : IsSized root.directory root.length
  pub apart : AreApart (reach root c)
  pub published_apart : AreApart (extents_of (stored_refs c.published))
  pub inside : AreInside size (reach root c)

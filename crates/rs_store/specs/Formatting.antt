-- The bytes that a formatting writes.
use Rattle.std.specs.Prelude.{◌≡◌, ◌↔◌, ◌<◌, ◌≤◌, ◌*◌, ℕ, false, List, [], length, take, IsTrue}
use Rattle.rs_fixity.specs.Digests.{digests}
use Rattle.rs_disk.specs.Medium.{Medium, resting}
use Rattle.rs_extent.specs.Blocks.{block_size}
use Rattle.rs_extent.specs.Extents.{IsOnDisk}
use Rattle.rs_body.specs.Blocks.{part, blocks_of}
use Rattle.rs_commit.specs.declared.root.Root.{Root}
use Rattle.rs_commit.specs.Slots.{written_version}
use Rattle.rs_commit.specs.Commit.{IsReady}
use Rattle.rs_commit.specs.Format.{formatted, fresh}
use Rattle.rs_record.specs.Base.{is_base}
use Rattle.rs_directory.specs.Limit.{IsLimit}
use Rattle.rs_directory.specs.declared.header.Header.{Header}
use Rattle.rs_directory.specs.Directory.{written_format, IsLawfulHeader}
use Rattle.rs_image.specs.Reach.{blocks_of_disk}
use Rattle.rs_image.specs.declared.contents.Contents.{Contents}
use Rattle.rs_image.specs.StateOfImage.{listing}
use Rattle.rs_store.specs.declared.formatting.Blank.{Blank}
use Rattle.rs_store.specs.declared.formatting.FormatFault.{FormatFault}
use Rattle.rs_store.specs.declared.formatting.FormatFault.TheVariants.{BadBase, BadLimit, TooSmall}

-- A disk of this many bytes can be formatted with this base and limit.
pub record MayMake (size : ℕ) (base : List ℕ) (limit : ℕ) : Type 0 where
  pub room : 16 ≤ blocks_of_disk size
  pub limit_is : IsLimit limit
  pub base_is : IsTrue (is_base base)

-- The causes of these faults: a fault comes exactly where its cause is there, and no cause of a fault before it.
pub record HasCauses (size : ℕ) (base : List ℕ) (limit : ℕ) (Refuses : FormatFault → Type 0) : Type 0 where
  pub bad_base : Refuses BadBase ↔ (is_base base ≡ false)
  pub bad_limit : Refuses BadLimit ↔ (IsTrue (is_base base) × (¬ IsLimit limit))
  pub too_small : Refuses TooSmall ↔ (IsTrue (is_base base) × IsLimit limit × (blocks_of_disk size < 16))

-- the header of a source that was formatted at this moment
abbrev pub first_header : List ℕ → ℕ → ℕ → Header
first_header base limit moment =
    record { base = base; limit = limit; start = moment; last = moment; number = 0; at = moment; first = 0; begin = moment }

-- its lists, which have no pages
abbrev pub first_contents : List ℕ → ℕ → ℕ → Contents
first_contents base limit moment =
    record { header = first_header base limit moment; catalogue = []; history = record { first = 0; pages = [] }; published = [] }

-- the root of these lists: the directory begins at block 2, and the generation is 1
abbrev pub first_root : Contents → Root
first_root c =
    record {
      version = written_version;
      generation = 1;
      directory = record { first = 2; blocks = blocks_of (length (listing written_format c)) };
      length = length (listing written_format c);
      sha256 = (digests (listing written_format c)).sha256;
    }

-- A new source before it is written: its lists, the bytes of its directory, and its root.
pub record IsBlank (base : List ℕ) (limit moment : ℕ) (b : Blank) : Type 0 where
  pub contents : b.contents ≡ first_contents base limit moment
  pub lawful : IsLawfulHeader written_format b.contents.header
  pub root : b.root ≡ first_root b.contents
  pub directory : b.directory.items ≡ listing written_format b.contents
  pub small : length (listing written_format b.contents) ≤ 512

-- It fits a disk of this many bytes: the slots, and after them the directory, in the extent that the root names.
pub record FitsDisk (size : ℕ) (b : Blank) : Type 0 where
  pub slots : 1024 ≤ size
  pub version : b.root.version ≡ written_version
  pub behind : b.root.directory.first ≡ 2
  pub room : IsOnDisk b.root.directory size
  pub fits : length b.directory.items ≤ block_size * b.root.directory.blocks

-- It is written to a disk that has settled: the first slot is open and gives the root, the second one is closed, and
-- the directory lies in the extent that the root names.
pub record IsMade (b : Blank) (m : Medium) : Type 0 where
  pub front : take 1024 m.seen ≡ formatted b.root
  pub ready : IsReady (fresh b.root) m
  pub resting : m ≡ resting m.seen
  pub reads : part b.root.directory (length b.directory.items) m.seen ≡ b.directory.items

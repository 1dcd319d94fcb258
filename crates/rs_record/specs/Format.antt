-- The formats of a record and of a change on the disk: their fields in order, all numbers big endian.
use Rattle.std.specs.Prelude.{◌≡◌, ℕ, List, [], ◌∷◌, ◌++◌, length, Option, Some, None}
use Rattle.std.specs.List.{concat}
use Rattle.std.specs.Int.{w32, w64, to_be_bytes}
use Rattle.rs_record.specs.declared.facts.Facts.{Facts}
use Rattle.rs_record.specs.declared.record.Record.{Record}
use Rattle.rs_record.specs.declared.change.What.{What}
use Rattle.rs_record.specs.declared.change.What.TheVariants.{Created, Updated, Deleted}
use Rattle.rs_record.specs.declared.change.Change.{Change}

-- a text of at most 255 bytes: one byte of length, and the bytes
abbrev pub counted_text : List ℕ → List ℕ
counted_text text = length text ∷ text

-- the facts of a body: media type, length in 4 bytes, MD5, SHA-256
abbrev pub facts_bytes : Facts → List ℕ
facts_bytes f = concat (counted_text f.kind ∷ to_be_bytes w32 f.length ∷ f.digests.md5 ∷ f.digests.sha256 ∷ [])

-- the facts of a body in its record
abbrev pub facts_in : Record → Facts
facts_in r = record { kind = r.kind; length = r.length; digests = r.digests }

-- a record: name, facts of its body, moment in 8 bytes, first block and number of blocks in 4 bytes each
abbrev pub record_bytes : Record → List ℕ
record_bytes r =
    concat
    (counted_text r.name ∷ facts_bytes (facts_in r) ∷ to_be_bytes w64 r.moment ∷ to_be_bytes w32 r.extent.first
    ∷ to_be_bytes w32 r.extent.blocks ∷ [])

-- the byte of a kind of change
abbrev pub what_byte : What → ℕ
what_byte Created = 1
what_byte Updated = 2
what_byte Deleted = 3

-- the facts of a body, if there are any
abbrev pub known_bytes : Option Facts → List ℕ
known_bytes None = []
known_bytes (Some f) = facts_bytes f

-- a change: its kind, name, moment in 8 bytes, and the facts of the body unless the name was unbound
abbrev pub change_bytes : Change → List ℕ
change_bytes c =
    concat ((what_byte c.what ∷ []) ∷ counted_text c.name ∷ to_be_bytes w64 c.moment ∷ known_bytes c.facts ∷ [])

-- the bytes begin with this text
abbrev pub BeginsWith : List ℕ → List ℕ → Type 0
BeginsWith bytes text = (rest : List ℕ) × (bytes ≡ text ++ rest)

-- Words of the readers' own contracts: a reader takes a field off the front of some bytes, and gives a value and the
-- bytes after it, or no value. Format states the duties of the public readers.
use Rattle.std.specs.Prelude.{◌≡◌, ℕ, List, [], ◌∷◌, length, take, drop, Bool, ◌||◌, ◌==◌, nat_le, if◌then◌else◌, Option, Some, None, IsSome, Result, Ok, Err}
use Rattle.std.specs.Option.{option_map}
use Rattle.std.specs.Int.{Width, w32, w64, byte_len, from_be_bytes}
use Rattle.rs_time.specs.Moment.{moment_of}
-- the next step, if there was a value
pub use Rattle.rs_fixity.specs.Cut.{◌>>=◌}
use Rattle.rs_record.specs.Name.{is_name}
use Rattle.rs_record.specs.MediaType.{is_media_type}
use Rattle.rs_record.specs.Changes.{bound, deleted}
use Rattle.rs_record.specs.declared.fault.ValueFault.{ValueFault}
use Rattle.rs_record.specs.declared.fault.ValueFault.TheVariants.{Malformed, NoMemory}
use Rattle.rs_record.specs.declared.facts.Facts.{Facts}
use Rattle.rs_record.specs.declared.record.Record.{Record}
use Rattle.rs_record.specs.declared.change.Change.{Change}

-- The result of a reader, seen by view, is the result of reading.
abbrev pub IsSeenAs : {X Y : Type 0} → (X → Y) → Option X → Option Y → Type 0
IsSeenAs view None read = read ≡ None
IsSeenAs view (Some x) read = read ≡ Some (view x)

-- The result of a reader is the value at the front and the length of its format. It lacks memory only if there is a
-- value.
abbrev pub IsValueAt : {A : Type 0} → (A → List ℕ) → Result (A × ℕ) ValueFault → Option (A × List ℕ) → Type 0
IsValueAt write (Ok x) read = (option_map (λ y. y.0) read ≡ Some x.0) × (x.1 ≡ length (write x.0))
IsValueAt write (Err Malformed) read = read ≡ None
IsValueAt write (Err NoMemory) read = IsSome read

-- the first n bytes
abbrev pub piece_at : ℕ → List ℕ → Option (List ℕ × List ℕ)
piece_at n bytes = if nat_le n (length bytes) then Some (take n bytes, drop n bytes) else None

-- a number, big endian
abbrev pub number_in : Width → List ℕ → Option (ℕ × List ℕ)
number_in w bytes = piece_at (byte_len w) bytes >>= λ piece. Some (from_be_bytes w piece.0, piece.1)

-- a byte of length and a text of that length
unfoldable pub counted_at : List ℕ → Option (List ℕ × List ℕ)
counted_at [] = None
counted_at (n ∷ rest) = piece_at n rest

-- the same, if the text is lawful
unfoldable pub text_at : (List ℕ → Bool) → List ℕ → Option (List ℕ × List ℕ)
text_at is_lawful bytes = do
  text ← counted_at bytes
  if is_lawful text.0 then Some text else None

-- a moment
unfoldable pub moment_in : List ℕ → Option (ℕ × List ℕ)
moment_in bytes = do
  ms ← number_in w64 bytes
  moment ← moment_of ms.0
  Some (moment, ms.1)

-- the facts of a body
unfoldable pub facts_at : List ℕ → Option (Facts × List ℕ)
facts_at bytes = do
  kind ← text_at is_media_type bytes
  len ← number_in w32 kind.1
  md5 ← piece_at 16 len.1
  sha256 ← piece_at 32 md5.1
  Some (record { kind = kind.0; length = len.0; digests = record { md5 = md5.0; sha256 = sha256.0 } }, sha256.1)

-- a record
unfoldable pub record_at : List ℕ → Option (Record × List ℕ)
record_at bytes = do
  name ← text_at is_name bytes
  facts ← facts_at name.1
  moment ← moment_in facts.1
  first ← number_in w32 moment.1
  blocks ← number_in w32 first.1
  Some (
    record {
      name = name.0;
      kind = facts.0.kind;
      length = facts.0.length;
      digests = facts.0.digests;
      moment = moment.0;
      extent = record { first = first.0; blocks = blocks.0 };
    },
    blocks.1,
  )

-- the facts of a change that binds a name
unfoldable pub bound_at : List ℕ → Bool → ℕ → List ℕ → Option (Change × List ℕ)
bound_at name again moment bytes = do
  facts ← facts_at bytes
  Some (bound name again moment facts.0, facts.1)

-- the rest of a change after its moment, by its kind
unfoldable pub change_after : ℕ → List ℕ → ℕ → List ℕ → Option (Change × List ℕ)
change_after what name moment bytes =
    if what == 3 then Some (deleted name moment, bytes)
    else if (what == 1) || (what == 2) then bound_at name (what == 2) moment bytes else None

-- a change
unfoldable pub change_at : List ℕ → Option (Change × List ℕ)
change_at [] = None
change_at (what ∷ rest) = do
  name ← text_at is_name rest
  moment ← moment_in name.1
  change_after what name.0 moment.0 moment.1

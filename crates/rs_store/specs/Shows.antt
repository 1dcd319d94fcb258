-- The data that a source shows of its state.
use Rattle.std.specs.Prelude.{◌≡◌, ℕ, List, length, Option, option_map, sum_by}
use Rattle.rs_copy.specs.Copies.{calls_to_read}
use Rattle.rs_fixity.specs.Digests.{digests}
use Rattle.rs_record.specs.declared.facts.Facts.{Facts}
use Rattle.rs_model.specs.declared.value.Held.{Held}
use Rattle.rs_model.specs.Names.{Names, value_of}
use Rattle.rs_model.specs.State.{Source}
use Rattle.rs_store.specs.declared.reading.Status.{Status}
use Rattle.rs_store.specs.declared.refusal.Refusal.{Refusal}
use Rattle.rs_store.specs.declared.refusal.Refusal.TheVariants.{Closed, NotHeld, Device, Damaged, NoMemory}

-- bytes have their recorded length and SHA-256
pub record AreAsRecorded (facts : Facts) (bytes : List ℕ) : Type 0 where
  pub len : length bytes ≡ facts.length
  pub sha256 : (digests bytes).sha256 ≡ facts.digests.sha256

-- the bytes of a held resource have their recorded SHA-256
abbrev pub HasItsDigest : Held → Type 0
HasItsDigest held = (digests held.bytes).sha256 ≡ held.entry.facts.digests.sha256

-- the calls that read every held body once
abbrev pub calls_for_held : Names Held → ℕ
calls_for_held all = sum_by (λ held. calls_to_read held.1.entry.facts.length) all

-- the refusals of a request for a body
abbrev pub IsOfBody : Refusal → Type 0
IsOfBody Closed = Unit {0}
IsOfBody NotHeld = Unit {0}
IsOfBody Device = Unit {0}
IsOfBody Damaged = Unit {0}
IsOfBody NoMemory = Unit {0}
IsOfBody refusal = ⊥

-- the recorded media type of a name
abbrev pub kind_of : List ℕ → Source → Option (List ℕ)
kind_of name s = option_map (λ held. held.entry.facts.kind) (value_of name s.held)

-- the refusals of a request for a media type
abbrev pub IsOfKind : Refusal → Type 0
IsOfKind Closed = Unit {0}
IsOfKind NotHeld = Unit {0}
IsOfKind NoMemory = Unit {0}
IsOfKind refusal = ⊥

-- a source in numbers: held resources, kept changes, the latest publication, the moment of the last command
abbrev pub status_of : Source → Status
status_of s = record { resources = length s.held; changes = length s.changes; publication = s.number; last = s.last }

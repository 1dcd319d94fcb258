-- The calls on a file with their answers.
use Rattle.std.specs.Prelude.{◌≡◌, ℕ, zero, suc, ◌==◌, Bool, false, not, ◌||◌, List, [], ◌∷◌, slice_index, refl}
use Rattle.std.specs.Coded.{Coded, code_by, coded×, coded_ℕ, coded_bool, coded_list}

-- A call with its answer: whether it succeeded, and for a read or a write its offset and the bytes read or passed.
pub data Event : Type 0 where
  WasRead : (at : ℕ) → (ok : Bool) → (bytes : List ℕ) → Event
  WasWritten : (at : ℕ) → (ok : Bool) → (bytes : List ℕ) → Event
  WasSynced : (ok : Bool) → Event

-- the call of this number
abbrev pub call_of : ℕ → ℕ → Bool → List ℕ → Event
call_of zero at ok bytes = WasRead at ok bytes
call_of (suc zero) at ok bytes = WasWritten at ok bytes
call_of (suc (suc more)) at ok bytes = WasSynced ok

-- a call from its bytes and its numbers, which are the kind of call, the offset and 1 for success
abbrev pub event_of : List ℕ → List ℕ → Event
event_of numbers bytes = call_of (slice_index numbers 0) (slice_index numbers 1) (slice_index numbers 2 == 1) bytes

-- whether an event is a failed sync
abbrev pub is_failed_sync : Event → Bool
is_failed_sync (WasRead at ok bytes) = false
is_failed_sync (WasWritten at ok bytes) = false
is_failed_sync (WasSynced ok) = not ok

-- whether these events include a failed sync
abbrev pub sync_failed : List Event → Bool
sync_failed [] = false
sync_failed (e ∷ earlier) = is_failed_sync e || sync_failed earlier

abbrev Parts : Type 0
Parts = ℕ × (ℕ × (Bool × List ℕ))

abbrev parts_of : Event → Parts
parts_of (WasRead at ok bytes) = (0, (at, (ok, bytes)))
parts_of (WasWritten at ok bytes) = (1, (at, (ok, bytes)))
parts_of (WasSynced ok) = (2, (0, (ok, [])))

abbrev of_parts : Parts → Event
of_parts p = call_of p.0 p.1.0 p.1.1.0 p.1.1.1

pub of_parts-parts_of : (e : Event) → of_parts (parts_of e) ≡ e
of_parts-parts_of (WasRead at ok bytes) = refl
of_parts-parts_of (WasWritten at ok bytes) = refl
of_parts-parts_of (WasSynced ok) = refl

-- the code by which proofs distinguish events
abbrev pub event_coded : Coded Event
event_coded = code_by Parts (coded× coded_ℕ (coded× coded_ℕ (coded× coded_bool (coded_list coded_ℕ)))) parts_of of_parts of_parts-parts_of

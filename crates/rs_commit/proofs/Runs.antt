-- Commits and formatting as runs of device calls.
use Rattle.std.proofs.Common.{true≢false, ◌≡◌, ◌⊎◌, inl, inr, ℕ, ◌+◌, ◌<◌, ◌≤◌, Bool, true, false, List, [], ◌∷◌, length, refl, sym, ◌∙◌, ap, subst, arith, Result, Ok, Err, IsErr, OnOk, OnErr}
use Rattle.std.proofs.lemmas.Bool.{cases_lt}
use Rattle.std.specs.Bool.{OnTrue, OnFalse}
use Rattle.rs_disk.specs.Medium.{Medium, DiskState, IsImage, IsMedium, over, resting}
use Rattle.rs_disk.specs.Calls.{CountsCall, Writes, Tears}
use Rattle.rs_disk.specs.Leaves.{Leaves, Torn, TornFrom}
use Rattle.rs_disk.specs.Runs.{WritesWithin, WritesNothing}
use Rattle.rs_commit.proofs.FromBelow.{over_torn, back_part, started, goes_on, same_goes_on, same_weaker, torn_byte, weaker, exit_images, write_leaves, writing_one, writing_then}
use Rattle.rs_commit.specs.declared.root.Root.{Root}
use Rattle.rs_commit.specs.declared.slot.Slot.{Slot}
use Rattle.rs_commit.specs.declared.slot.Slot.TheVariants.{First, Second}
use Rattle.rs_commit.specs.Slots.{Standing, offset, other, payload_of, IsLawfulRoot}
use Rattle.rs_commit.specs.Commit.{SameBehind, IsReady, OldOrNew, WritesSlots, with_root}
use Rattle.rs_commit.specs.Format.{IsAsBefore, SameButGates}
use Rattle.rs_commit.proofs.Blocks.{fits_slot, over_behind, over_thrice}
use Rattle.rs_commit.proofs.Payloads.{length-payload}
use Rattle.rs_commit.proofs.Phases.{Shut, behind_on, at_entry, closing, shut_already, shut_now, staging, staged_now, opening}

-- an Ok answer does not say that the device failed
well : ¬ (false ≡ true)
well told = true≢false (sym told)

-- after a write, with any answer, a read gives bytes that are torn in the range of the write
write_tears : {T E : Type 0} (old new : DiskState) (at : ℕ) (bytes : List ℕ) (result : Result T E) → at + length bytes ≤ length old.now.seen
    → OnOk result (Writes at bytes old new) → OnErr result (Tears at (length bytes) old new) → Torn at (length bytes) old.now.seen new.now.seen
write_tears old new at bytes (Ok x) fits ok err = subst (λ (m : Medium). Torn at (length bytes) old.now.seen m.seen) (sym ok.now) (over_torn old.now.seen at bytes fits)
write_tears old new at bytes (Err e) fits ok (inl (any, long, wrote)) =
    subst (λ (m : Medium). Torn at (length bytes) old.now.seen m.seen) (sym wrote.now)
    (subst (λ (k : ℕ). Torn at k old.now.seen (over old.now.seen at any)) long (over_torn old.now.seen at any (omega (arith, long, fits))))
write_tears old new at bytes (Err e) fits ok (inr refused) =
    subst (λ (m : Medium). Torn at (length bytes) old.now.seen m.seen) (sym refused.now) (record { size = refl; before = refl; after = refl })

-- A write is a run that writes its range,
pub within_one : {E : Type 0} {old new : DiskState} (at : ℕ) (bytes : List ℕ) (result : Result (Unit {0}) E) → IsMedium old.size old.now → at + length bytes ≤ old.size → CountsCall old new result
    → OnOk result (Writes at bytes old new) → OnErr result (Tears at (length bytes) old new) → new.honest ≡ old.honest → WritesWithin at (length bytes) (IsErr result) old new
within_one {old = old} {new = new} at bytes result is fits counts ok err keeps = record {
  writes = writing_one old new result counts keeps;
  torn = write_tears old new at bytes result (omega (arith, fits, is.image.size, is.settled)) ok err;
  leaves = write_leaves old new at bytes result counts is fits ok err;
}

-- and so is one that is followed by a run without writes.
pub within_then : {A : Type 0} {old mid new : DiskState} {at n : ℕ} → WritesWithin at n (false ≡ true) old mid → WritesNothing A mid new → new.honest ≡ mid.honest → WritesWithin at n A old new
within_then {old = old} {mid = mid} {new = new} {at = at} {n = n} one two keeps = record {
  writes = writing_then old mid new well one.writes (record { runs = two.runs; keeps = keeps; stops = two.stops });
  torn = subst (λ (l : List ℕ). Torn at n old.now.seen l) (sym two.seen) one.torn;
  leaves = goes_on old mid new (λ _. TornFrom old.now at n) one.leaves
      (weaker mid new (λ _. IsImage mid.now) (λ _. TornFrom old.now at n) (λ m image is. exit_images old mid (λ _. TornFrom old.now at n) one.leaves image is) two.leaves);
}

-- A run that writes within a range of the slots writes within the slots,
pub slots_within : {A : Type 0} {old new : DiskState} {at n : ℕ} → WritesWithin at n A old new → at + n ≤ 1024 → WritesSlots A old new
slots_within {old = old} {new = new} {at = at} {n = n} run fits = record {
  writes = run.writes;
  outside = behind old.now.seen new.now.seen run.torn;
  leaves = same_weaker (λ e image. SameBehind image e) (Torn at n) behind run.leaves;
}
  where
    behind : (one two : List ℕ) → Torn at n one two → SameBehind two one
    behind one two torn = record { size = torn.size; bytes = back_part (at + n) 1024 two one fits torn.after }

-- so does one that writes the gate of a slot, or the bytes after it,
pub gate_slots : {A : Type 0} {old new : DiskState} (s : Slot) → WritesWithin (offset s) 1 A old new → WritesSlots A old new
gate_slots s run = slots_within run (omega (arith, fits_slot s))

pub payload_slots : {A : Type 0} {old new : DiskState} (s : Slot) → WritesWithin (offset s + 1) 53 A old new → WritesSlots A old new
payload_slots s run = slots_within run (omega (arith, fits_slot s))

-- so does a single write there, with any answer,
pub slots_written : {E : Type 0} {old new : DiskState} (at : ℕ) (bytes : List ℕ) (result : Result (Unit {0}) E) → IsMedium old.size old.now → 1024 ≤ old.size → at + length bytes ≤ 1024
    → CountsCall old new result → OnOk result (Writes at bytes old new) → OnErr result (Tears at (length bytes) old new) → new.honest ≡ old.honest → WritesSlots (IsErr result) old new
slots_written at bytes result is room low counts ok err keeps =
    slots_within (within_one at bytes result is (omega (arith, room, low)) counts ok err keeps) low

-- and so do two such runs, one after the other.
pub slots_then : {A : Type 0} {old mid new : DiskState} → WritesSlots (false ≡ true) old mid → WritesSlots A mid new → WritesSlots A old new
slots_then {old = old} {mid = mid} {new = new} one two = record {
  writes = writing_then old mid new well one.writes two.writes;
  outside = behind_on new.now.seen mid.now.seen old.now.seen two.outside one.outside;
  leaves = same_goes_on (λ e image. SameBehind image e) (λ e between image first then. behind_on image between e then first) one.leaves two.leaves;
}

-- A run that writes the gate of a slot leaves all else as it was at entry,
but_gates : (at : ℕ) (one two : List ℕ) → (at ≡ offset First) ⊎ (at ≡ offset Second) → Torn at 1 one two → SameButGates two one
but_gates at one two gate torn = record { size = torn.size; bytes = λ i first second. torn_byte at 1 i one two torn (apart i first second gate) }
  where
    apart : (i : ℕ) → ¬ (i ≡ offset First) → ¬ (i ≡ offset Second) → (at ≡ offset First) ⊎ (at ≡ offset Second) → (i + 1 ≤ at) ⊎ (at + 1 ≤ i)
    apart i first second gate = elim (cases_lt i at) [
      | inl below ↦ inl (omega arith)
      | inr from ↦ inr (elim gate [ inl is ↦ omega (arith, first, is) | inr is ↦ omega (arith, second, is) ])
    ]

pub gate_leaves : {A : Type 0} {old new : DiskState} (at : ℕ) → (at ≡ offset First) ⊎ (at ≡ offset Second) → WritesWithin at 1 A old new → Leaves old new (λ _. IsAsBefore old.now)
gate_leaves at gate run = same_weaker (λ e image. SameButGates image e) (Torn at 1) (λ e image torn. but_gates at e image gate torn) run.leaves

-- and so do two such runs, one after the other.
pub gates_leave : {old mid new : DiskState} → Leaves old mid (λ _. IsAsBefore old.now) → Leaves mid new (λ _. IsAsBefore mid.now) → Leaves old new (λ _. IsAsBefore old.now)
gates_leave = same_goes_on (λ e image. SameButGates image e)
    (λ e between image first then. record { size = then.size ∙ first.size; bytes = λ i one two. then.bytes i one two ∙ first.bytes i one two })

-- The steps of a commit.
module _ (slots : Standing) (old : DiskState) (is : IsMedium old.size old.now) (ready : IsReady slots old.now) (new : Root) where
  abbrev pub Outcome : ℕ → List ℕ → Type 0
  Outcome m = OldOrNew old.now slots.root new

  pub none_leaves : Leaves old old Outcome
  none_leaves = started old Outcome (λ image left. at_entry slots old.now old.size is ready new image left)

  module _ (spare : Slot) (same : spare ≡ other slots.slot) where
    -- a write within the spare
    step : (mid next : DiskState) (at : Slot → ℕ) (n : ℕ) → Leaves old mid Outcome → ((image : List ℕ) → TornFrom mid.now (at (other slots.slot)) n image → OldOrNew old.now slots.root new image)
        → Leaves mid next (λ _. TornFrom mid.now (at spare) n) → Leaves old next Outcome
    step mid next at n before from torn =
        goes_on old mid next Outcome before
        (weaker mid next (λ _. TornFrom mid.now (at spare) n) Outcome (λ m image left. from image (subst (λ (s : Slot). TornFrom mid.now (at s) n image) same left)) torn)

    -- the spare is closed
    module _ (was_open : Bool) (was : slots.spare_open ≡ was_open) (mid : DiskState) (closing_leaves : Leaves old mid (λ _. TornFrom old.now (offset spare) 1)) (nothing : OnFalse was_open (mid ≡ old)) where
      pub closed_leaves : Leaves old mid Outcome
      closed_leaves = close was_open was nothing
        where
          close : (b : Bool) → slots.spare_open ≡ b → OnFalse b (mid ≡ old) → Leaves old mid Outcome
          close true was nothing = step old mid offset 1 none_leaves (closing slots old.now old.size is ready was new) closing_leaves
          close false was nothing = subst (λ (d : DiskState). Leaves old d Outcome) (sym nothing) none_leaves

      module _ (closed : OnTrue was_open (mid.now ≡ resting (over old.now.seen (offset spare) (0 ∷ [])))) (next : DiskState) where
        shut : Shut old.now slots.slot slots.root mid.now
        shut = now was_open was closed nothing
          where
            now : (b : Bool) → slots.spare_open ≡ b → OnTrue b (mid.now ≡ resting (over old.now.seen (offset spare) (0 ∷ []))) → OnFalse b (mid ≡ old) → Shut old.now slots.slot slots.root mid.now
            now true was closed nothing = shut_now slots old.now old.size is ready mid.now (subst (λ (s : Slot). mid.now ≡ resting (over old.now.seen (offset s) (0 ∷ []))) same closed)
            now false was closed nothing = subst (λ (d : DiskState). Shut old.now slots.slot slots.root d.now) (sym nothing) (shut_already slots old.now old.size is ready was)

        -- then the new root is written to the bytes after the closed gate
        module _ (sound : IsMedium mid.size mid.now) (size : mid.size ≡ old.size) (staging_leaves : Leaves mid next (λ _. TornFrom mid.now (offset spare + 1) 53)) where
          pub staged_leaves : Leaves old next Outcome
          staged_leaves =
              step mid next (λ s. offset s + 1) 53 closed_leaves (staging slots old.now old.size is ready mid.now (subst (λ (k : ℕ). IsMedium k mid.now) size sound) shut new) staging_leaves

          -- then the spare is opened
          pub opened_leaves : next.now ≡ resting (over mid.now.seen (offset spare + 1) (payload_of new)) → IsLawfulRoot new → slots.root.generation < new.generation
              → (last : DiskState) → Leaves next last (λ _. TornFrom next.now (offset spare) 1) → Leaves old last Outcome
          opened_leaves written lawful greater last torn =
              let staged = staged_now slots old.now old.size is ready mid.now shut new lawful next.now (subst (λ (s : Slot). next.now ≡ resting (over mid.now.seen (offset s + 1) (payload_of new))) same written) in
              step next last offset 1 staged_leaves (opening slots old.now old.size is ready next.now new staged lawful greater) torn

-- at the end the slot is open and holds the root
pub all_written : (slot : Slot) (root : Root) → IsLawfulRoot root → (was_open : Bool) (old mid next last : DiskState) → 1024 ≤ length old.now.seen
    → OnTrue was_open (mid.now ≡ resting (over old.now.seen (offset slot) (0 ∷ []))) → OnFalse was_open (mid ≡ old)
    → next.now ≡ resting (over mid.now.seen (offset slot + 1) (payload_of root)) → last.now ≡ resting (over next.now.seen (offset slot) (1 ∷ []))
    → last.now ≡ resting (with_root old.now.seen slot root)
all_written slot root lawful was_open old mid next last room closed nothing written opened =
    opened ∙ ap (λ (m : Medium). resting (over m.seen (offset slot) (1 ∷ []))) written ∙ ap resting (whole was_open closed nothing)
  where
    p : List ℕ
    p = payload_of root

    ends : List ℕ → List ℕ
    ends bytes = over (over bytes (offset slot + 1) p) (offset slot) (1 ∷ [])

    fits : offset slot + 1 + length p ≤ length old.now.seen
    fits = omega (arith, room, fits_slot slot, length-payload root lawful)

    whole : (b : Bool) → OnTrue b (mid.now ≡ resting (over old.now.seen (offset slot) (0 ∷ []))) → OnFalse b (mid ≡ old) → ends mid.now.seen ≡ with_root old.now.seen slot root
    whole true closed nothing = ap (λ (m : Medium). ends m.seen) closed ∙ over_thrice old.now.seen (offset slot) 0 1 p fits
    whole false closed nothing = ap (λ (d : DiskState). ends d.now.seen) nothing ∙ over_behind old.now.seen (offset slot) 1 p fits

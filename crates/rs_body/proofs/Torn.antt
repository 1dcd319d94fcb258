-- The effect of one write on the disk.
use Rattle.std.proofs.Common.{◌≡◌, ◌⊎◌, inl, inr, ℕ, ◌+◌, ◌≤◌, List, length, refl, sym, subst, arith, Result, Ok, Err, OnOk, OnErr}
use Rattle.rs_disk.specs.Medium.{Medium, DiskState, over, written}
use Rattle.rs_disk.specs.Calls.{Writes, Tears}
use Rattle.rs_disk.specs.Leaves.{Torn}
use Rattle.rs_body.proofs.FromBelow.{over_torn}

-- any bytes of its length in its place, or no change
abbrev pub IsHeld : ℕ → ℕ → Medium → Medium → Type 0
IsHeld at n old new = ((any : List ℕ) × (length any ≡ n) × (new ≡ written old at any)) ⊎ (new ≡ old)

-- with any answer of the write
pub held : {T E : Type 0} (old new : DiskState) (at : ℕ) (bytes : List ℕ) (result : Result T E) → OnOk result (Writes at bytes old new) → OnErr result (Tears at (length bytes) old new) → IsHeld at (length bytes) old.now new.now
held old new at bytes (Ok x) ok err = inl (bytes, refl, ok.now)
held old new at bytes (Err e) ok (inl torn) = inl (torn.0, torn.1, torn.2.now)
held old new at bytes (Err e) ok (inr refused) = inr refused.now

-- A read finds it torn in its place.
pub torn_held : (at n : ℕ) (old new : Medium) → at + n ≤ length old.seen → IsHeld at n old new → Torn at n old.seen new.seen
torn_held at n old new fits (inl (any, long, is)) = subst (λ (m : Medium). Torn at n old.seen m.seen) (sym is)
    (subst (λ (k : ℕ). Torn at k old.seen (over old.seen at any)) long (over_torn old.seen at any (omega (arith, long, fits))))
torn_held at n old new fits (inr is) = subst (λ (m : Medium). Torn at n old.seen m.seen) (sym is) (record { size = refl; before = refl; after = refl })

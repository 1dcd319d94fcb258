-- The counts of a reader after reads.
use Rattle.std.proofs.Common.{◌≡◌, ℕ, ◌+◌, ◌≤◌, ◌++◌, Bool, true, false, Result, List, [], length, refl, ap, inl, inr, arith}
use Rattle.std.proofs.lemmas.List.{length-append}
use Rattle.std.specs.Prelude.{IsTrue}
use Rattle.rs_io.specs.declared.watch.Watched.{Watched}
use Rattle.rs_io.specs.Watch.{calls, failures, IsCalledOnce, IsRefused}
use Rattle.rs_store.specs.Received.{ReadsFor}

once_called : {T : Type 0} (a b : Watched T) → IsCalledOnce a b → calls b ≤ calls a + 1
once_called a b (inl once) = omega (arith, once)
once_called a b (inr (same, last)) = omega (arith, same)

-- a read makes at most one call, whether the end had failed before or not
pub one_read : {T X E : Type 0} (broken : Bool) (a b : Watched T) (r : Result X E) → (IsTrue broken → IsRefused a b r) → (broken ≡ false → IsCalledOnce a b) → calls b ≤ calls a + 1
one_read true a b r refused called = omega (arith, (refused refl).not_called)
one_read false a b r refused called = once_called a b (called refl)

-- where no byte came, no read was made
pub no_reads : {R : Type 0} (more : ℕ) (a : Watched R) → ReadsFor more a a []
no_reads more a = record { reads = omega arith; once = omega arith }

-- reads without failures
pub sound_reads : {R : Type 0} (more : ℕ) (a b : Watched R) (came : List ℕ) → calls b ≤ calls a + (length came + more) → failures b ≡ failures a → ReadsFor more a b came
sound_reads more a b came few same = record { reads = few; once = omega (arith, ap (λ f. f.all) same) }

-- reads after reads without failures
pub reads_behind : {R : Type 0} (a b c : Watched R) (front came : List ℕ) (more : ℕ) → calls b ≤ calls a + length front → failures b ≡ failures a → ReadsFor more b c came → ReadsFor more a c (front ++ came)
reads_behind a b c front came more few same then = record {
  reads = omega (arith, few, then.reads, length-append front came);
  once = omega (arith, ap (λ f. f.all) same, then.once);
}

-- a last read after reads without failures
pub reads_last : {R : Type 0} (a b c : Watched R) (came : List ℕ) → calls b ≤ calls a + length came → failures b ≡ failures a
    → calls c ≤ calls b + 1 → (failures c).all ≤ (failures b).all + 1 → ReadsFor 1 a c came
reads_last a b c came few same one once = record { reads = omega (arith, few, one); once = omega (arith, ap (λ f. f.all) same, once) }

-- One more change in a memory disk's record.
use Rattle.std.proofs.Common.{◌≡◌, ℕ, ◌<◌, ◌≤◌, Bool, true, false, nat_lt, nat_eq, List, [], ◌∷◌, ◌++◌, refl, ◌∙◌, ap, arith, cond}
use Rattle.std.proofs.lemmas.Bool.Decides.{nat_tests}
use Rattle.rs_disk.specs.declared.history.CallChange.{CallChange}
use Rattle.rs_disk.specs.Medium.{Medium}
use Rattle.rs_disk.specs.History.{during, after, seen_from, replay}

replay_push : (k : ℕ) (m : Medium) (es : List CallChange) (e : CallChange) → replay k m (es ++ e ∷ []) ≡ seen_from k e (replay k m es)
replay_push k m [] e = refl
replay_push k m (x ∷ es) e = replay_push k (seen_from k x m) es e

lt_true : (m n : ℕ) → m < n → nat_lt m n ≡ true
lt_true m n lt = grind (arith, nat_tests)

lt_false : (m n : ℕ) → n ≤ m → nat_lt m n ≡ false
lt_false m n le = grind (arith, nat_tests)

eq_true : (n : ℕ) → nat_eq n n ≡ true
eq_true n = grind (arith, nat_tests)

eq_false : (m n : ℕ) → n < m → nat_eq m n ≡ false
eq_false m n lt = grind (arith, nat_tests)

-- the content that a crash finds after the entry's call, within it, and before it
module _ (m : Medium) (es : List CallChange) (e : CallChange) where
  choice : Bool → Bool → ℕ → Medium
  choice past here k = cond past (after e.change (replay k m es)) (cond here (during e.change (replay k m es)) (replay k m es))

  pub replay_later : (k : ℕ) → e.call < k → replay k m (es ++ e ∷ []) ≡ after e.change (replay k m es)
  unfolding choice
  replay_later k lt = replay_push k m es e ∙ ap (λ (b : Bool). choice b (nat_eq e.call k) k) (lt_true e.call k lt)

  pub replay_within : replay e.call m (es ++ e ∷ []) ≡ during e.change (replay e.call m es)
  unfolding choice
  replay_within =
      replay_push e.call m es e
      ∙ ap (λ (b : Bool). choice b (nat_eq e.call e.call) e.call) (lt_false e.call e.call (omega arith))
      ∙ ap (λ (b : Bool). choice false b e.call) (eq_true e.call)

  pub replay_before : (k : ℕ) → k < e.call → replay k m (es ++ e ∷ []) ≡ replay k m es
  unfolding choice
  replay_before k lt =
      replay_push k m es e
      ∙ ap (λ (b : Bool). choice b (nat_eq e.call k) k) (lt_false e.call k (omega arith))
      ∙ ap (λ (b : Bool). choice false b k) (eq_false e.call k lt)

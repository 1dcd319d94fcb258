-- One call more in the record of a file.
use Rattle.std.proofs.Common.{◌≡◌, inl, ℕ, ◌+◌, ◌<◌, ◌≤◌, nat_eq, Bool, true, false, if◌then◌else◌, IsTrue, List, [], ◌∷◌, ◌++◌, length, replicate, refl, sym, ◌∙◌, ap, subst, arith, length-append, length-take, Result, Ok, Err, is_ok, OnErr}
use Rattle.std.proofs.lemmas.Bool.Decides.{nat_tests}
use Rattle.std.proofs.lemmas.List.{length-replicate, take_at}
use Rattle.rs_disk.specs.declared.disk.Fault.{Fault}
use Rattle.rs_disk.specs.Medium.{Medium, DiskState, IsMedium, widened, written, resting}
use Rattle.rs_disk.specs.Calls.{Passes, Writes, Tears}
use Rattle.rs_file.proofs.FromBelow.{resting_medium, written_medium}
use Rattle.rs_file.specs.Events.{Event, WasWritten}
use Rattle.rs_file.specs.Replay.{sized, one_more, opened, replay_events}

pub length-sized : (n : ℕ) (bytes : List ℕ) → length (sized n bytes) ≡ n
unfolding sized
length-sized n bytes = omega (arith, length-take n (bytes ++ replicate n 0), length-append bytes (replicate n 0), length-replicate {A = ℕ} n 0)

eq_true : (m n : ℕ) → m ≡ n → nat_eq m n ≡ true
eq_true m n is = grind (arith, nat_tests)

eq_false : (m n : ℕ) → m < n → nat_eq m n ≡ false
eq_false m n lt = grind (arith, nat_tests)

passes_more : (m : DiskState) (follows : Bool) (held now : Medium) (ok : Bool) → Passes m (one_more ok follows held now m) held
passes_more m follows held now ok = record {
  past = λ k lt. ap (λ (b : Bool). if b then held else m.within k) (eq_false k m.calls lt);
  this = λ _. ap (λ (b : Bool). if b then held else m.within m.calls) (eq_true m.calls m.calls refl);
}

module _ (first : List ℕ) (torn : ℕ → List ℕ) (size : ℕ) (events later : List Event) (at : ℕ) (bytes : List ℕ) where
  abbrev before : DiskState
  before = replay_events first torn size events

  abbrev behind : DiskState
  behind = replay_events first torn size later

  -- a write within the disk, whether it succeeded or not
  pub write_sound : (ok : Bool) → later ≡ WasWritten at ok bytes ∷ events → at + length bytes ≤ size → IsMedium size before.now → IsMedium size behind.now
  write_sound ok noted fits sound = subst (λ (l : List Event). IsMedium size (replay_events first torn size l).now) (sym noted) (here ok)
    where
      here : (b : Bool) → IsMedium size (written before.now at (if b then bytes else sized (length bytes) (torn before.calls)))
      here true = written_medium size before.now at bytes sound fits
      here false =
          let long = length-sized (length bytes) (torn before.calls) in
          written_medium size before.now at (sized (length bytes) (torn before.calls)) sound (subst (λ (k : ℕ). at + k ≤ size) (sym long) fits)

  -- one that failed
  pub write_tears : (result : Result (Unit {0}) Fault) → later ≡ WasWritten at (is_ok result) bytes ∷ events → OnErr result (Tears at (length bytes) before behind)
  write_tears (Ok _) noted = tt
  write_tears (Err _) noted =
      let any = sized (length bytes) (torn before.calls) in
      let long = length-sized (length bytes) (torn before.calls) in
      let held : Medium = widened before.now at (length bytes) in
      inl (
        any,
        long,
        subst (λ (l : List Event). Writes at any before (replay_events first torn size l)) (sym noted) (record {
          now = refl;
          passes = subst (λ (k : ℕ). Passes before (one_more false true held (written before.now at any) before) (widened before.now at k)) (sym long) (passes_more before true held (written before.now at any) false);
        }),
      )

-- at the beginning
pub first_sound : (first : List ℕ) (torn : ℕ → List ℕ) (size : ℕ) (events : List Event) → events ≡ [] → IsMedium size (replay_events first torn size events).now
first_sound first torn size events none = subst (λ (es : List Event). IsMedium size (replay_events first torn size es).now) (sym none) (resting_medium size (sized size first) (length-sized size first))

pub equal : (m n : ℕ) → IsTrue (nat_eq m n) → m ≡ n
equal m n h = grind (arith, nat_tests)

whole : (bytes : List ℕ) → sized (length bytes) bytes ≡ bytes
unfolding sized
whole bytes = take_at bytes (replicate (length bytes) 0) (length bytes) refl

-- if the file has the length of its supposed bytes, it holds them
pub opened_first : (first : List ℕ) (torn : ℕ → List ℕ) (size : ℕ) (events : List Event) → events ≡ [] → IsTrue (replay_events first torn size events).honest → (replay_events first torn size events).now ≡ resting first
opened_first first torn size events none = subst (λ (es : List Event). IsTrue (replay_events first torn size es).honest → (replay_events first torn size es).now ≡ resting first) (sym none) here
  where
    here : IsTrue (opened first size).honest → (opened first size).now ≡ resting first
    here h = ap (λ (n : ℕ). resting (sized n first)) (equal size (length first) h) ∙ ap resting (whole first)

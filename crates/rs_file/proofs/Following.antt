-- Whether a file has followed the model so far.
use Rattle.std.proofs.Common.{◌≡◌, ℕ, true, false, List, [], ◌∷◌, length, take, drop, nat_eq, IsTrue, arith, refl}
use Rattle.std.proofs.lemmas.Bool.{and_parts, and_from}
use Rattle.std.proofs.lemmas.Slice.Eq.{bytes_eq-Decides}
use Rattle.std.proofs.lemmas.Bool.Decides.{nat_tests}
use Rattle.rs_disk.specs.Medium.{DiskState}
use Rattle.rs_file.specs.Events.{Event, WasRead, WasWritten, WasSynced}
use Rattle.rs_file.specs.Replay.{stands_at, after_call, replay_events}
use Rattle.rs_file.specs.Honest.{IsRight, AllRight}
use Rattle.rs_file.proofs.Replaying.{equal}

step : (torn : ℕ → List ℕ) (m : DiskState) (e : Event) → IsTrue m.honest → IsRight m e → IsTrue (after_call torn e m).honest
step torn m (WasRead at true bytes) h right = and_from m.honest (stands_at m.now.seen at bytes) h ((bytes_eq-Decides bytes (take (length bytes) (drop at m.now.seen))).1 right)
step torn m (WasRead at false bytes) h right = and_from m.honest true h refl
step torn m (WasWritten at ok bytes) h right = and_from m.honest true h refl
step torn m (WasSynced ok) h right = and_from m.honest true h refl

back : (torn : ℕ → List ℕ) (m : DiskState) (e : Event) → IsTrue (after_call torn e m).honest → IsTrue m.honest × IsRight m e
back torn m (WasRead at true bytes) h = let both = and_parts m.honest (stands_at m.now.seen at bytes) h in (both.0, (bytes_eq-Decides bytes (take (length bytes) (drop at m.now.seen))).0 both.1)
back torn m (WasRead at false bytes) h = ((and_parts m.honest true h).0, tt)
back torn m (WasWritten at ok bytes) h = ((and_parts m.honest true h).0, tt)
back torn m (WasSynced ok) h = ((and_parts m.honest true h).0, tt)

eq_from : (m n : ℕ) → m ≡ n → IsTrue (nat_eq m n)
eq_from m n is = grind (arith, nat_tests)

pub to_right : (first : List ℕ) (torn : ℕ → List ℕ) (size : ℕ) (events : List Event) → IsTrue (replay_events first torn size events).honest → AllRight first torn size events
to_right first torn size [] h = equal size (length first) h
to_right first torn size (e ∷ earlier) h =
    let both = back torn (replay_events first torn size earlier) e h in
    (to_right first torn size earlier both.0, both.1)

pub from_right : (first : List ℕ) (torn : ℕ → List ℕ) (size : ℕ) (events : List Event) → AllRight first torn size events → IsTrue (replay_events first torn size events).honest
from_right first torn size [] is = eq_from size (length first) is
from_right first torn size (e ∷ earlier) right = step torn (replay_events first torn size earlier) e (from_right first torn size earlier right.0) right.1

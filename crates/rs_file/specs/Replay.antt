-- The disk state after calls with their answers, on a file that follows the model.
use Rattle.std.specs.Prelude.{ℕ, ◌+◌, nat_eq, Bool, true, false, not, ◌||◌, ◌&&◌, List, [], ◌∷◌, ◌++◌, length, take, drop, replicate, bytes_eq, if◌then◌else◌}
use Rattle.rs_disk.specs.Medium.{Medium, DiskState, widened, written, resting}
use Rattle.rs_file.specs.Events.{Event, WasRead, WasWritten, WasSynced}

-- the first n of these bytes, followed by zeros if there are fewer than n
unfoldable pub sized : ℕ → List ℕ → List ℕ
sized n bytes = take n (bytes ++ replicate n 0)

-- whether a read sees these bytes at this offset
abbrev pub stands_at : List ℕ → ℕ → List ℕ → Bool
stands_at seen at bytes = bytes_eq bytes (take (length bytes) (drop at seen))

-- One more call. The arguments: whether it succeeded, whether its answer follows the model, the content of the disk
-- within it, and the content after it.
abbrev pub one_more : Bool → Bool → Medium → Medium → DiskState → DiskState
one_more ok follows held now m = record {
  size = m.size;
  calls = m.calls + 1;
  faults = if ok then m.faults else m.faults + 1;
  last_failed = not ok;
  honest = m.honest && follows;
  now = now;
  within = λ k. if nat_eq k m.calls then held else m.within k;
}

-- After a call. A read follows the model if it fails, or if it returns the bytes at its offset. A failed write after k
-- calls leaves the bytes torn k in its range. A successful sync settles the bytes that a read sees, and a failed sync
-- leaves the content as it was.
abbrev pub after_call : (ℕ → List ℕ) → Event → DiskState → DiskState
after_call torn (WasRead at ok bytes) m = one_more ok (not ok || stands_at m.now.seen at bytes) m.now m.now m
after_call torn (WasWritten at ok bytes) m =
    one_more ok true (widened m.now at (length bytes)) (written m.now at (if ok then bytes else sized (length bytes) (torn m.calls))) m
after_call torn (WasSynced ok) m = one_more ok true m.now (if ok then resting m.now.seen else m.now) m

-- a newly opened file of this length, whose content was these bytes, all settled
abbrev pub opened : List ℕ → ℕ → DiskState
opened first size =
    record {
      size = size;
      calls = 0;
      faults = 0;
      last_failed = false;
      honest = nat_eq size (length first);
      now = resting (sized size first);
      within = λ _. resting (sized size first);
    }

-- after these calls, newest first
abbrev pub replay_events : List ℕ → (ℕ → List ℕ) → ℕ → List Event → DiskState
replay_events first torn size [] = opened first size
replay_events first torn size (e ∷ earlier) = after_call torn e (replay_events first torn size earlier)

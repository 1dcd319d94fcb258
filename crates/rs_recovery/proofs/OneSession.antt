-- A source on a memory disk, through a stop.
use Rattle.std.proofs.Common.{◌≡◌, ℕ, List, [], ◌∷◌, refl, ap, arith, Ok, Err, None}
use Rattle.rs_disk.specs.declared.memory.MemoryDisk.{MemoryDisk}
use Rattle.rs_disk.specs.Medium.{Medium, IsImage, image_of, resting}
use Rattle.rs_disk.specs.Memory.{memory_state}
use Rattle.rs_model.specs.State.{Source, start_of}
use Rattle.rs_model.specs.Step.{fold_of}
use Rattle.rs_store.specs.declared.opening.OpenFault.{OpenFault}
use Rattle.rs_store.specs.Source.{Stored, Holds}
use Rattle.rs_store.specs.Runs.{Holding}
use Rattle.rs_recovery.specs.declared.surviving.Halt.TheVariants.{Opening}
use Rattle.rs_recovery.specs.Sessions.{Session, AreSessions, commands_left, AreLeft}
use Rattle.rs_recovery.specs.Recovered.{YieldsHeld, Headline}
use Rattle.rs_recovery.specs.Surviving.{IsRunFrom, Survives, IsLost}
use Rattle.rs_recovery.proofs.Below.{Commands, Acks}
use Rattle.rs_recovery.proofs.Acknowledged.{accepted_acknowledged}
use Rattle.rs_recovery.proofs.FromBelow.{answered_rise}
use Rattle.rs_recovery.proofs.Reopened.{not_lost}

module _ (base : List ℕ) (limit moment : ℕ) (cs : Commands) (acks : Acks) (left : MemoryDisk) (choice : List ℕ)
    (run : IsRunFrom (start_of base limit moment) cs acks (memory_state left)) (disk : MemoryDisk)
    (is_image : IsImage (memory_state left).now (image_of choice (memory_state left).now)) (bytes : (memory_state disk).now ≡ resting (image_of choice (memory_state left).now)) where
  abbrev start : Source
  start = start_of base limit moment

  -- the one session, stopped at its end
  abbrev session : Session
  session = record { first = run.0; commands = cs; acks = acks; unanswered = None; last = memory_state left; stop = (memory_state left).calls; image = image_of choice (memory_state left).now }

  are : AreSessions start (session ∷ [])
  are = record {
    answered = run.1;
    stopped = record {
      from = answered_rise run.0 (Holding start) cs acks (memory_state left) run.1;
      to = omega arith;
      left = record { past = λ lt. absurd (omega (arith, lt)); now = λ _. is_image };
    };
  }

  by_one : (source : Stored MemoryDisk) (standing : List ℕ) → AreLeft start (session ∷ []) standing
      → Holds memory_state source (fold_of start (commands_left (session ∷ []) standing)) → YieldsHeld (fold_of start (commands_left (session ∷ []) standing))
      → Survives start cs acks left choice source
  by_one source [] hold state yields = absurd hold
  by_one source (j ∷ []) hold state yields =
      record {
        run = run;
        j = j;
        image = hold.2;
        accepted = omega (arith, hold.0, accepted_acknowledged run.0 (Holding start) cs acks (memory_state left) run.1);
        holds = state;
        yields = yields;
      }
  by_one source (j ∷ k ∷ standing) hold state yields = absurd hold.3

  pub survives : (source : Stored MemoryDisk) → Headline memory_state disk (Ok source) → Survives start cs acks left choice source
  survives source headline =
      let is = headline base limit moment [] session [] are (ap (λ (m : Medium). m.seen) bytes) refl in
      by_one source is.standing is.left is.state is.yields

  pub is_found : (back : MemoryDisk) (fault : OpenFault) → Headline memory_state disk (Err (back, fault)) → IsLost (Opening fault) → ⊥
  is_found back fault headline =
      not_lost (memory_state disk) (memory_state back) fault (headline base limit moment [] session [] are (ap (λ (m : Medium). m.seen) bytes) refl).state

-- A script that stops after the first of its two replies, computed.
use Rattle.std.proofs.Common.{◌≡◌, ℕ, List, [], ◌∷◌, Ok, Err, refl}
use Rattle.std.specs.Prelude.{codes}
use Rattle.rs_model.specs.State.{Source}
use Rattle.rs_model.specs.declared.command.Command.{Command}
use Rattle.rs_model.specs.declared.command.Command.TheVariants.{Delete, Publish}
use Rattle.rs_model.specs.declared.command.Reply.TheVariants.{Deleted, Published}
use Rattle.rs_store.specs.declared.refusal.Refusal.TheVariants.{Full}
use Rattle.rs_store.specs.declared.running.Ack.{Ack}
use Rattle.rs_store.specs.Runs.{StandsForPrefix}
use Rattle.rs_script.specs.declared.refusal.Refusal.TheVariants as refusals
use Rattle.rs_script.specs.Session.{LineOutcome, moment_set, replied, refused}
use Rattle.rs_script.specs.Stopped.{replies_by, SplitAtStop}

abbrev commands : List (Command × ℕ)
commands = (Delete (codes "a"), 5) ∷ (Publish, 6) ∷ (Publish, 7) ∷ []

-- a deletion at 15 calls, a publication on a full disk, and another one at 22
abbrev acks : List Ack
acks =
    record { reply = Ok (Deleted 5); at_call = 15 } ∷ record { reply = Err Full; at_call = 15 } ∷ record { reply = Ok (Published 1 7); at_call = 22 } ∷ []

abbrev outcomes : List LineOutcome
outcomes = moment_set ∷ replied (Deleted 5) ∷ refused (refusals.Source Full) ∷ replied (Published 1 7) ∷ moment_set ∷ []

-- before 15 calls there is no reply, from 22 on there are two
pub counted_replies : (replies_by 14 acks ≡ []) × (replies_by 22 acks ≡ Deleted 5 ∷ Published 1 7 ∷ [])
counted_replies = (refl, refl)

-- at 21 calls the answers up to the refusal may have been written
pub worked_stop : (s : Source) (image : List ℕ) → StandsForPrefix s commands acks 21 image → SplitAtStop s commands acks outcomes 21 image
worked_stop s image stands = record {
  first = moment_set ∷ replied (Deleted 5) ∷ refused (refusals.Source Full) ∷ [];
  later = replied (Published 1 7) ∷ moment_set ∷ [];
  outcomes_are = refl;
  next = (Published 1 7, refl);
  by_then = refl;
  kept = stands;
  each_kept = stands.least;
}

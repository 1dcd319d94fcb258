-- The promises of the crates below, for the proofs of this one.
use Rattle.std.proofs.Common.{◌≡◌, ℕ, Bool, List, [], ◌∷◌, ◌++◌, cond, Err}
use Rattle.rs_disk.specs.Medium.{DiskState}
use Rattle.rs_disk.specs.Leaves.{Leaves}
use Rattle.rs_model.specs.declared.command.Command.{Command}
use Rattle.rs_store.specs.declared.refusal.Refusal.TheVariants.{Device}
use Rattle.rs_store.specs.declared.running.Ack.{Ack}
use Rattle.rs_store.specs.Counted.{is_accepted, is_in_doubt, counted_commands}
use Rattle.rs_store.specs.Laws.{AreClosed}
use Rattle.rs_recovery.proofs.FromBelow.{closed_is_no_device, closed_is_no_ok, none_counts}

abbrev pub Commands : Type 0
Commands = List (Command × ℕ)

abbrev pub Acks : Type 0
Acks = List Ack

-- if the device failed in a command, that command counts, and no later one does
pub counts_alone : (c : Command × ℕ) (cs : Commands) (call : ℕ) (acks : Acks) → AreClosed acks
    → counted_commands (c ∷ cs) (record { reply = Err Device; at_call = call } ∷ acks) ≡ c ∷ []
counts_alone c cs call acks closed = λ i.
    none_counts is_accepted closed_is_no_ok cs acks closed i ++ c ∷ none_counts is_in_doubt closed_is_no_device cs acks closed i

abbrev pub one : Bool → ℕ
one b = cond b 1 0

-- a run of calls that leaves P leaves every Q that follows from P
pub weaker : (old new : DiskState) (P Q : ℕ → List ℕ → Type 0) → ((m : ℕ) (image : List ℕ) → P m image → Q m image) → Leaves old new P → Leaves old new Q
weaker old new P Q from left = record { later = left.later; before = left.before; each = λ m image ge le at. from m image (left.each m image ge le at) }

-- The commands of a run that count, and the number of them that count at a moment.
use Rattle.std.specs.Prelude.{ℕ, ◌+◌, Bool, true, false, ◌&&◌, ◌||◌, nat_le, List, [], ◌∷◌, ◌++◌, Result, Err, is_ok, if◌then◌else◌}
use Rattle.rs_model.specs.declared.command.Command.{Command}
use Rattle.rs_model.specs.declared.command.Reply.{Reply}
use Rattle.rs_store.specs.declared.refusal.Refusal.{Refusal}
use Rattle.rs_store.specs.declared.refusal.Refusal.TheVariants.{Device}
use Rattle.rs_store.specs.declared.running.Ack.{Ack}

-- the answer is Ok
abbrev pub is_accepted : Ack → Bool
is_accepted a = is_ok a.reply

abbrev pub is_device : Result Reply Refusal → Bool
is_device (Err Device) = true
is_device reply = false

-- the answer is Device: the command may or may not be done
abbrev pub is_in_doubt : Ack → Bool
is_in_doubt a = is_device a.reply

-- the commands whose answers pass a test, in their order
abbrev pub answered : (Ack → Bool) → List (Command × ℕ) → List Ack → List (Command × ℕ)
answered test [] acks = []
answered test (c ∷ commands) [] = []
answered test (c ∷ commands) (a ∷ acks) = if test a then c ∷ answered test commands acks else answered test commands acks

-- the counted commands: those with the answer Ok, and then the one with the answer Device, if any
abbrev pub counted_commands : List (Command × ℕ) → List Ack → List (Command × ℕ)
counted_commands commands acks = answered is_accepted commands acks ++ answered is_in_doubt commands acks

-- the number of commands that had the answer Ok at a count of m calls
abbrev pub acknowledged : ℕ → List Ack → ℕ
acknowledged m [] = 0
acknowledged m (a ∷ acks) = (if is_accepted a && nat_le a.at_call m then 1 else 0) + acknowledged m acks

-- the number of counted commands that had begun then: all commands before them had their answers
abbrev pub begun : ℕ → List Ack → ℕ
begun m [] = 0
begun m (a ∷ acks) = (if is_accepted a || is_in_doubt a then 1 else 0) + (if nat_le a.at_call m then begun m acks else 0)

-- The state of a script, and the outcome of a statement.
use Rattle.std.specs.Prelude.{ℕ, List, []}
use Rattle.rs_model.specs.declared.command.Command.{Command}
use Rattle.rs_model.specs.declared.command.Reply.{Reply}
use Rattle.rs_store.specs.declared.reading.Status as counts
use Rattle.rs_script.specs.declared.refusal.Refusal.{Refusal}

-- the source, and the moment of the next command
pub record ScriptState (S : Type 0) : Type 0 where
  pub source : S
  pub now : ℕ

abbrev pub script_state : {S : Type 0} → S → ℕ → ScriptState S
script_state source now = record { source = source; now = now }

-- the outcome of a statement
pub data LineOutcome : Type 0 where
  -- the moment is set
  moment_set : LineOutcome
  -- the source accepted a command
  replied : Reply → LineOutcome
  -- the bytes of a document or of a resource
  shown : List ℕ → LineOutcome
  -- the counts that `status` shows
  counted : counts.Status → LineOutcome
  -- the bodies of these names are damaged, and this many are sound
  verified : List (List ℕ) → ℕ → LineOutcome
  -- the statement is refused
  refused : Refusal → LineOutcome

-- the outcome of a statement, the counted command with its moment (at most one), and the state after it
pub record Answer (S : Type 0) : Type 0 where
  pub outcome : LineOutcome
  pub commands : List (Command × ℕ)
  pub session : ScriptState S

-- the state stays the same
abbrev pub unchanged : {S : Type 0} → ScriptState S → LineOutcome → Answer S
unchanged s outcome = record { outcome = outcome; commands = []; session = s }

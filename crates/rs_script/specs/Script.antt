-- A script and its answers, one after another.
use Rattle.std.specs.Prelude.{◌≡◌, ◌<◌, ◌+◌, ◌^◌, ℕ, false, List, [], ◌∷◌, ◌++◌, All, map, flat_map, IsTrue}
use Rattle.rs_disk.specs.Medium.{DiskState}
use Rattle.rs_model.specs.State.{Source}
use Rattle.rs_model.specs.declared.command.Command.{Command}
use Rattle.rs_model.specs.Step.{fold_of}
use Rattle.rs_store.specs.Source.{Stored, Holds, state_of}
use Rattle.rs_recovery.specs.Prefixes.{IsRunOf, Recovers}
use Rattle.rs_store.specs.declared.refusal.Refusal as stored
use Rattle.rs_store.specs.declared.refusal.Refusal.TheVariants as machine
use Rattle.rs_items.specs.declared.item.ItemFault.TheVariants as fault
use Rattle.rs_script.specs.declared.refusal.Refusal.TheVariants as refusals
use Rattle.rs_script.specs.Model.{answers_of}
use Rattle.rs_script.specs.Outcomes.{StatementGives}
use Rattle.rs_script.specs.Statements.{Statement, IsScript}
use Rattle.rs_script.specs.Walked.{ScriptMakesWalk}
use Rattle.rs_script.specs.Session.{ScriptState, script_state, LineOutcome, refused, Answer}

-- the statements are answered one after another: their outcomes, the counted commands, and the state after them
abbrev pub Transcript : {D : Type 0} → (D → DiskState) → ScriptState (Stored D) → List Statement → List LineOutcome → List (Command × ℕ) → ScriptState (Stored D) → Type 0
Transcript device old [] outcomes commands new = (outcomes ≡ []) × (commands ≡ []) × (new ≡ old)
Transcript {D} device old (statement ∷ statements) outcomes commands new =
    (answer : Answer (Stored D)) × (more : List LineOutcome) × (later : List (Command × ℕ))
    × StatementGives device old statement answer × (outcomes ≡ answer.outcome ∷ more) × (commands ≡ answer.commands ++ later)
    × Transcript device answer.session statements more later new

-- the input is cut into statements, and these are answered one after another
abbrev pub ScriptGives : {D : Type 0} → (D → DiskState) → ScriptState (Stored D) → List ℕ → List LineOutcome → List (Command × ℕ) → ScriptState (Stored D) → Type 0
ScriptGives device old input outcomes commands new =
    (statements : List Statement) × IsScript input statements × Transcript device old statements outcomes commands new

-- A script that ran on a source, from the moment 0 on: the input, the outcomes of its statements, the counted commands,
-- and the moment of the next command. Whenever the disk stops, it holds the state after the first of these commands.
-- The script makes a walk, whose fetches give the shown bytes.
pub record Ran {D : Type 0} (device : D → DiskState) (old new : Stored D) : Type 0 where
  pub input : List ℕ
  pub outcomes : List LineOutcome
  pub commands : List (Command × ℕ)
  pub last : ℕ
  pub gives : ScriptGives device (script_state old 0) input outcomes commands (script_state new last)
  pub recovers : Recovers device old commands new
  pub walks : ScriptMakesWalk device old 0 input outcomes new

-- a script is a run of its counted commands
abbrev pub ScriptsAreRuns : {D : Type 0} → (D → DiskState) → Type 0
ScriptsAreRuns {D} device = (old new : ScriptState (Stored D)) (input : List ℕ) (outcomes : List LineOutcome) (commands : List (Command × ℕ))
    → ScriptGives device old input outcomes commands new → IsRunOf device old.source commands new.source

-- whenever the disk stops within a script, it holds the state after the first counted commands
abbrev pub ScriptsRecover : {D : Type 0} → (D → DiskState) → Type 0
ScriptsRecover {D} device = (old new : ScriptState (Stored D)) (input : List ℕ) (outcomes : List LineOutcome) (commands : List (Command × ℕ))
    → ScriptGives device old input outcomes commands new → Recovers device old.source commands new.source

-- every script makes a walk
abbrev pub ScriptsMakeWalks : {D : Type 0} → (D → DiskState) → Type 0
ScriptsMakeWalks {D} device = (old new : ScriptState (Stored D)) (input : List ℕ) (outcomes : List LineOutcome) (commands : List (Command × ℕ))
    → ScriptGives device old input outcomes commands new → ScriptMakesWalk device old.source old.now input outcomes new.source

-- the refusals of a source that the model does not decide, other than for lack of a generation
abbrev pub IsOfMachine : stored.Refusal → Type 0
IsOfMachine machine.Closed = Unit {0}
IsOfMachine machine.Full = Unit {0}
IsOfMachine machine.Device = Unit {0}
IsOfMachine machine.Damaged = Unit {0}
IsOfMachine machine.NoMemory = Unit {0}
IsOfMachine refusal = ⊥

-- an outcome that the model does not decide
abbrev pub IsMachine : LineOutcome → Type 0
IsMachine (refused (refusals.Line fault.NoMemory)) = Unit {0}
IsMachine (refused (refusals.Source refusal)) = IsOfMachine refusal
IsMachine outcome = ⊥

-- the model decides every outcome
abbrev pub AreDecided : List LineOutcome → Type 0
AreDecided outcomes = All (λ outcome. ¬ IsMachine outcome) outcomes

-- the state of a script as the model sees it: that of its source, and its moment
abbrev pub model_state : {D : Type 0} → (D → DiskState) → ScriptState (Stored D) → ScriptState Source
model_state device s = script_state (state_of device s.source) s.now

-- if no refusal is the machine's, generations are left and the device has followed the model, every statement of a
-- script is answered as the model answers it
abbrev pub ScriptsFollowTheModel : {D : Type 0} → (D → DiskState) → Type 0
ScriptsFollowTheModel {D} device = (old new : ScriptState (Stored D)) (input : List ℕ) (outcomes : List LineOutcome) (commands : List (Command × ℕ))
    (statements : List Statement) → ScriptGives device old input outcomes commands new → AreDecided outcomes → IsTrue (device new.source.disk).honest
    → new.source.slots.root.generation + 1 < 2 ^ 64 → IsScript input statements
    → (outcomes ≡ map (λ a. a.outcome) (answers_of (model_state device old) statements))
    × (commands ≡ flat_map (λ a. a.commands) (answers_of (model_state device old) statements))

-- the counted commands of a script make the state of its source, unless the source is closed
abbrev pub ScriptsTellTheFold : {D : Type 0} → (D → DiskState) → Type 0
ScriptsTellTheFold {D} device = (old new : ScriptState (Stored D)) (input : List ℕ) (outcomes : List LineOutcome) (commands : List (Command × ℕ))
    → ScriptGives device old input outcomes commands new → new.source.is_closed ≡ false → state_of device new.source ≡ fold_of (state_of device old.source) commands

-- those commands turn a state that its source held into the state that it holds then, unless the source is closed
abbrev pub ScriptsHoldTheFold : {D : Type 0} → (D → DiskState) → Type 0
ScriptsHoldTheFold {D} device = (old new : ScriptState (Stored D)) (input : List ℕ) (outcomes : List LineOutcome) (commands : List (Command × ℕ)) (s : Source)
    → ScriptGives device old input outcomes commands new → Holds device old.source s → new.source.is_closed ≡ false → Holds device new.source (fold_of s commands)

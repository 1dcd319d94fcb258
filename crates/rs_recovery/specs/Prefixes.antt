-- The effect of a stop on commands that a source gets one by one, as from a script or from requests.
use Rattle.std.specs.Prelude.{◌≡◌, ℕ, ◌+◌, ◌≤◌, false, List, [], ◌∷◌, ◌++◌, length, take, Result, Ok, Err}
use Rattle.std.specs.List.{AllByRecursion}
use Rattle.rs_disk.specs.Medium.{DiskState, IsImage}
use Rattle.rs_disk.specs.Leaves.{Leaves}
use Rattle.rs_model.specs.State.{Source}
use Rattle.rs_model.specs.Step.{fold_of}
use Rattle.rs_model.specs.declared.command.Command.{Command}
use Rattle.rs_model.specs.declared.command.Reply.{Reply}
use Rattle.rs_image.specs.StateOfImage.{StandsFor}
use Rattle.rs_store.specs.declared.refusal.Refusal.{Refusal}
use Rattle.rs_store.specs.declared.refusal.Refusal.TheVariants.{Device}
use Rattle.rs_store.specs.declared.running.Ack.{Ack}
use Rattle.rs_store.specs.Source.{Stored, Holds}
use Rattle.rs_store.specs.Answered.{Answers}
use Rattle.rs_store.specs.Counted.{counted_commands, acknowledged}
use Rattle.rs_store.specs.Runs.{IsIdle, InTurn, Holding, AreAnswered}

-- A command counts if it was accepted, and if the device failed in it, since its step may have been applied then.
abbrev pub counted_as : Command → ℕ → Result Reply Refusal → List (Command × ℕ)
counted_as command now (Ok reply) = (command, now) ∷ []
counted_as command now (Err Device) = (command, now) ∷ []
counted_as command now (Err refusal) = []

-- A source answered commands in their turn, and these of them count.
pub record IsRunOf {D : Type 0} (device : D → DiskState) (old : Stored D) (commands : List (Command × ℕ)) (new : Stored D) : Type 0 where
  pub asked : List (Command × ℕ)
  pub acks : List Ack
  pub turn : InTurn device old asked acks new
  pub count : counted_commands asked acks ≡ commands

-- an image represents the state after the first j of these commands
pub record StandsForFirst (s : Source) (commands : List (Command × ℕ)) (j : ℕ) (image : List ℕ) : Type 0 where
  pub most : j ≤ length commands
  pub stands : StandsFor image (fold_of s (take j commands))

-- The effect of commands on a source that held a state, whenever a stop comes.
-- `asked`, `acks`: all commands that it got, also the refused ones, and their answers.
-- `answered`: its disk saw them answered in their order, so they are commands of a session.
-- `count`: these of them count.
-- `by_exit`: all answers came before the end.
-- `each`: an image of a crash after m calls represents the state after the commands that were acknowledged by then, or
-- after one more, which had begun.
-- `rises`: acknowledged commands stay acknowledged. So a later image represents at most one command fewer than an
-- earlier one.
-- `holds`: a source that is open at the end holds the state after all of them.
-- `at_exit`: every image at the end represents the state after all of them. The last command may be missing if the
-- source is closed, since the device failed in it.
pub record LeavesPrefixes {D : Type 0} (device : D → DiskState) (old : Stored D) (s : Source) (commands : List (Command × ℕ)) (new : Stored D) : Type 0 where
  pub asked : List (Command × ℕ)
  pub acks : List Ack
  pub answered : AreAnswered (device old.disk) (Holding s) asked acks (device new.disk)
  pub count : counted_commands asked acks ≡ commands
  pub by_exit : AllByRecursion (λ a. a.at_call ≤ (device new.disk).calls) acks
  pub each : Leaves (device old.disk) (device new.disk)
      (λ m image. (j : ℕ) × (acknowledged m acks ≤ j) × (j ≤ acknowledged m acks + 1) × StandsForFirst s commands j image)
  pub rises : (m n : ℕ) → m ≤ n → acknowledged m acks ≤ acknowledged n acks
  pub holds : new.is_closed ≡ false → Holds device new (fold_of s commands)
  pub at_exit : (image : List ℕ) → IsImage (device new.disk).now image
      → (j : ℕ) × (length commands ≤ j + 1) × (new.is_closed ≡ false → j ≡ length commands) × StandsForFirst s commands j image

-- If the source held a state before these commands, a stop leaves the state after the first of them.
abbrev pub Recovers : {D : Type 0} → (D → DiskState) → Stored D → List (Command × ℕ) → Stored D → Type 0
Recovers device old commands new = (s : Source) → Holds device old s → LeavesPrefixes device old s commands new

-- A stop of any run leaves the state after the first counted commands.
abbrev pub RunsRecover : {D : Type 0} → (D → DiskState) → Type 0
RunsRecover {D} device = (old new : Stored D) (commands : List (Command × ℕ)) → IsRunOf device old commands new → Recovers device old commands new

-- A source that idles ran no command that counts.
abbrev pub IdleIsRun : {D : Type 0} → (D → DiskState) → Type 0
IdleIsRun {D} device = (old new : Stored D) → IsIdle device old new → IsRunOf device old [] new

-- One command with its answer is a run.
abbrev pub CommandIsRun : {D : Type 0} → (D → DiskState) → Type 0
CommandIsRun {D} device = (old new : Stored D) (command : Command) (now : ℕ) (reply : Result Reply Refusal)
    → Answers device old new command now reply → IsRunOf device old (counted_as command now reply) new

-- Two runs, one after the other, are one run.
abbrev pub RunsJoin : {D : Type 0} → (D → DiskState) → Type 0
RunsJoin {D} device = (old mid new : Stored D) (first then : List (Command × ℕ))
    → IsRunOf device old first mid → IsRunOf device mid then new → IsRunOf device old (first ++ then) new

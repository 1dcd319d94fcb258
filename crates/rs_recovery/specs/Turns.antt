-- The requests that join into a run of commands.
use Rattle.std.specs.Prelude.{◌≡◌, ◌⊎◌, ◌<◌, ◌≤◌, ℕ, List, [], ◌∷◌, length, Result, Ok, Err}
use Rattle.rs_disk.specs.Medium.{DiskState}
use Rattle.rs_disk.specs.Leaves.{Leaves}
use Rattle.rs_model.specs.State.{Source}
use Rattle.rs_model.specs.declared.command.Command.{Command}
use Rattle.rs_model.specs.declared.command.Command.TheVariants.{Put}
use Rattle.rs_model.specs.declared.command.Reply.{Reply}
use Rattle.rs_image.specs.StateOfImage.{StandsFor}
use Rattle.rs_store.specs.declared.refusal.Refusal.{Refusal}
use Rattle.rs_store.specs.declared.refusal.Refusal.TheVariants.{ReadFault, ShortBody}
use Rattle.rs_store.specs.Source.{Stored, Holds}
use Rattle.rs_store.specs.Answered.{Answers}
use Rattle.rs_store.specs.OnlyReads.{OnlyReads}
use Rattle.rs_store.specs.Received.{ComingPut, IsBodyOf, AnswersFrom, coming_put}
use Rattle.rs_store.specs.Runs.{IsIdle, InTurn}

-- This command alone was answered in its turn.
abbrev pub IsOneTurn : {D : Type 0} → (D → DiskState) → Stored D → Command → ℕ → Result Reply Refusal → Stored D → Type 0
IsOneTurn device old command now reply new =
    InTurn device old ((command, now) ∷ []) (record { reply = reply; at_call = (device new.disk).calls } ∷ []) new

-- One command is a run of its own.
abbrev pub CommandsAreTurns : {D : Type 0} → (D → DiskState) → Type 0
CommandsAreTurns {D} device = (old new : Stored D) (command : Command) (now : ℕ) (reply : Result Reply Refusal)
    → Answers device old new command now reply → IsOneTurn device old command now reply new

-- A source that only reads, as for a body or for the list of damaged bodies, idles, whatever it answers.
abbrev pub ReadingsIdle : {D : Type 0} → (D → DiskState) → Type 0
ReadingsIdle {D} device = (old new : Stored D) → OnlyReads device old new → IsIdle device old new

-- An accepted put is one command, of the bytes that came. A put is no command if the reader failed or ended within the
-- body. With any other refusal the missing bytes do not matter: for every body that begins with the bytes that came,
-- the put gets this refusal.
abbrev pub IsPutTurn : {D : Type 0} → (D → DiskState) → Stored D → ComingPut → List ℕ → Result Reply Refusal → Stored D → Type 0
IsPutTurn device old put came (Ok reply) new =
    (length came ≡ put.size) × IsOneTurn device old (Put put.name put.kind came) put.now (Ok reply) new
IsPutTurn device old put came (Err ReadFault) new = InTurn device old [] [] new
IsPutTurn device old put came (Err ShortBody) new = InTurn device old [] [] new
IsPutTurn device old put came (Err refusal) new = (length came ≤ put.size)
    × ((body : List ℕ) → IsBodyOf put.size came body → IsOneTurn device old (Put put.name put.kind body) put.now (Err refusal) new)

-- A put of which these bytes came, as a turn. `cut`: if its body did not come whole, it is not done, whatever the
-- answer.
pub record ComesInTurn {D : Type 0} (device : D → DiskState) (old : Stored D) (put : ComingPut) (came : List ℕ) (result : Result Reply Refusal) (new : Stored D) : Type 0 where
  pub turn : IsPutTurn device old put came result new
  pub cut : length came < put.size → (s : Source) → Holds device old s → Leaves (device old.disk) (device new.disk) (λ _ image. StandsFor image s)

-- A put whose body comes from a reader is a turn.
abbrev pub PutsComeInTurn : {D : Type 0} → (D → DiskState) → Type 0
PutsComeInTurn {D} device = (old new : Stored D) (name kind : List ℕ) (n now : ℕ) (came : List ℕ) (result : Result Reply Refusal)
    → AnswersFrom device old new (coming_put name kind n now) came result → ComesInTurn device old (coming_put name kind n now) came result new

-- A source idles if the body of a put does not come whole: the reader fails, or its input ends.
abbrev pub CutPutsIdle : {D : Type 0} → (D → DiskState) → Type 0
CutPutsIdle {D} device = (old new : Stored D) (name kind : List ℕ) (n now : ℕ) (came : List ℕ)
    → AnswersFrom device old new (coming_put name kind n now) came (Err ReadFault) ⊎ AnswersFrom device old new (coming_put name kind n now) came (Err ShortBody) → IsIdle device old new

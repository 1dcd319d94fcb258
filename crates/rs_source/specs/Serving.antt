-- The effect of the accepted connections of a listener on a source.
use Rattle.std.specs.Prelude.{◌≡◌, ◌≤◌, ℕ, Bool, false, nat_le, List, [], ◌∷◌, length, map, flat_map, Option, Result, Ok, Err}
use Rattle.rs_disk.specs.Medium.{DiskState}
use Rattle.rs_io.specs.Watch.{calls, Ends}
use Rattle.rs_model.specs.declared.command.Command.{Command}
use Rattle.rs_store.specs.declared.running.Ack.{Ack}
use Rattle.rs_store.specs.Source.{Stored}
use Rattle.rs_recovery.specs.Replies.{AnsweredCommand, command_of, ack_of, HasAnswered}
use Rattle.rs_io.specs.declared.fault.StreamFault.{StreamFault}
use Rattle.rs_io.specs.declared.fault.StreamFault.TheVariants.{Read, Write}
use Rattle.rs_http.specs.declared.serve.Served.{Served}
use Rattle.rs_http.specs.declared.serve.Served.TheVariants.{Answered}
use Rattle.rs_store.specs.Advancing.{GoesOnOnce}
use Rattle.rs_http.specs.Counted.{RunsAtMost}
use Rattle.rs_http.specs.Turn.{Turn, turn}
use Rattle.rs_http.specs.Serving.{Serves, Breaks, Halts}
use Rattle.rs_http.specs.Told.{TellsRequest}
use Rattle.rs_http.specs.Statuses.{code_of}
use Rattle.rs_source.specs.Connections.{Connection, AreNew}

-- the calls of one request on these two ends, by its result: it was answered, or its reader failed, or its writer
-- failed
abbrev pub Requests : {D : Type 0} {device : D → DiskState} → Turn device → Ends → Result Served StreamFault → Type 0
Requests turn ends (Ok served) = Serves turn ends served
Requests turn ends (Err Read) = Breaks turn ends
Requests turn ends (Err Write) = Halts turn ends

-- the request was answered with a refusal: a status of an error, of the client or of the server
abbrev pub was_refused : Result Served StreamFault → Bool
was_refused (Ok (Answered status)) = nat_le 400 (code_of status)
was_refused result = false

-- The one request of a connection was served, at the moment of the connection and between its ends.
-- `request`: the bytes that these ends gave and took are one request, with this result.
-- `answered`: the source got at most one command, the one that the request asks for, and the response reports its
-- answer.
-- `once`, `run`: the connection is at most one command of the model, and a run.
pub record IsServed {D : Type 0} (device : D → DiskState) (old : Stored D) (connection : Connection) (new : Stored D) : Type 0 where
  pub result : Result Served StreamFault
  pub request : Requests (turn device old connection.now new) connection.ends result
  pub answered : TellsRequest (turn device old connection.now new) connection.ends
  pub once : GoesOnOnce device old connection.now new
  pub run : RunsAtMost device old 1 new

-- the same, and whether the request was refused
abbrev pub IsServedAs : {D : Type 0} → (D → DiskState) → Stored D → Connection → Bool → Stored D → Type 0
IsServedAs device old connection refused new = (one : IsServed device old connection new) × (refused ≡ was_refused one.result)

-- These connections were served in sequence, all between new ends. The source after a connection serves the next one.
abbrev pub AreServed : {D : Type 0} → (D → DiskState) → Stored D → List Connection → Stored D → Type 0
AreServed device old [] new = new ≡ old
AreServed {D} device old (connection ∷ connections) new =
    (mid : Stored D) × AreNew connection.ends × IsServed device old connection mid × AreServed device mid connections new

-- A connection, and the command that the source got from it with its answer, if any.
pub record Told : Type 0 where
  pub connection : Connection
  pub got : Option AnsweredCommand

-- The source got at most this command from the connection, at the moment of the connection. The bytes of its reader ask
-- for the command, and its writer took the answer, or a beginning of it. The writer had no earlier calls, so it took no
-- other bytes.
pub record IsTold {D : Type 0} (device : D → DiskState) (old : Stored D) (told : Told) (new : Stored D) : Type 0 where
  pub is_new : calls told.connection.ends.before ≡ 0
  pub tells : TellsRequest (turn device old told.connection.now new) told.connection.ends
  pub got_is : tells.got ≡ told.got

-- Connections were answered in sequence, all from the source as the previous one left it.
abbrev pub AreTold : {D : Type 0} → (D → DiskState) → Stored D → List Told → Stored D → Type 0
AreTold device old [] new = new ≡ old
AreTold {D} device old (told ∷ later) new = (mid : Stored D) × IsTold device old told mid × AreTold device mid later new

-- the commands that the source got from connections, in their order
abbrev pub commands_of : List Told → List (Command × ℕ)
commands_of told = flat_map (λ t. command_of t.got) told

-- the answers to them
abbrev pub acks_of : List Told → List Ack
acks_of told = flat_map (λ t. ack_of t.got) told

-- All of these connections were answered, and the source did their commands alone.
pub record AnswersConnections {D : Type 0} (device : D → DiskState) (old : Stored D) (connections : List Connection) (new : Stored D) : Type 0 where
  pub told : List Told
  pub connections_are : map (λ t. t.connection) told ≡ connections
  pub each : AreTold device old told new
  pub answered : HasAnswered device old (commands_of told) (acks_of told) new

-- A listener accepted at most `count` connections, and the source served them.
-- `came`: the listener accepted these connections; `from` is the listener before, `to` the listener after.
-- `served`, `answers`: the effects of the connections, and their answers.
pub record ServesAccepted {D L : Type 0} (device : D → DiskState) (accepted : L → List Connection → L → Type 0)
    (from : L) (old : Stored D) (count : ℕ) (to : L) (new : Stored D) : Type 0 where
  pub connections : List Connection
  pub came : accepted from connections to
  pub few : length connections ≤ count
  pub served : AreServed device old connections new
  pub answers : AnswersConnections device old connections new

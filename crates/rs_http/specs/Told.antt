-- The reply that the response to a request reports, and the command that its source got.
use Rattle.std.specs.Prelude.{◌≡◌, ◌⊎◌, ◌<◌, ℕ, List, [], ◌∷◌, ◌++◌, length, IfOk, IfSome, IsTrue, Option, None, Some, Result, Ok}
use Rattle.std.specs.Io.KnownBytes.{Consumes, Appends}
use Rattle.httparse.specs.Ascii.{space}
use Rattle.httparse.specs.Grammar.{LineEnd, print_blank}
use Rattle.rs_disk.specs.Medium.{DiskState}
use Rattle.rs_disk.specs.Leaves.{Leaves}
use Rattle.rs_io.specs.Watch.{watched, Ends}
use Rattle.rs_image.specs.StateOfImage.{StandsFor}
use Rattle.rs_model.specs.State.{Source}
use Rattle.rs_model.specs.declared.command.Command.{Command}
use Rattle.rs_model.specs.declared.command.Command.TheVariants as commands
use Rattle.rs_model.specs.declared.command.Item.{Item}
use Rattle.rs_model.specs.declared.command.Reply.{Reply}
use Rattle.rs_store.specs.Received.{IsBodyOf}
use Rattle.rs_store.specs.Runs.{IsIdle, InTurn}
use Rattle.rs_store.specs.Source.{Holds}
use Rattle.rs_store.specs.declared.refusal.Refusal as stored
use Rattle.rs_recovery.specs.Replies.{AnsweredCommand, command_of, ack_of}
use Rattle.rs_http.specs.declared.head.HeadRead.{HeadRead}
use Rattle.rs_http.specs.declared.request.Request.{Request}
use Rattle.rs_http.specs.declared.request.RequestPlan.{RequestPlan}
use Rattle.rs_http.specs.declared.request.RequestPlan.TheVariants.{Put, Delete, Publish, Group}
use Rattle.rs_http.specs.declared.request.RequestFault.{RequestFault}
use Rattle.rs_http.specs.declared.response.Framing.{Framing}
use Rattle.rs_http.specs.Groups.{items_in}
use Rattle.rs_http.specs.Turn.{Turn}
use Rattle.rs_http.specs.Checks.{is_get}
use Rattle.rs_http.specs.Outcomes.{outcome_replied, RequestGives}
use Rattle.rs_http.specs.Requests.{Asks}
use Rattle.rs_http.specs.Responses.{RequestOutcome, replied, shown, response_text, go_on}
use Rattle.rs_http.specs.Serving.{IsBroken}

-- the reply in the outcome of a request, if the source accepted a command
abbrev pub told_by : RequestOutcome → List Reply
told_by (replied reply) = reply ∷ []
told_by outcome = []

-- the reply in a response, if there is one
abbrev pub reply_sent : Option RequestOutcome → List Reply
reply_sent None = []
reply_sent (Some outcome) = told_by outcome

-- the text of a response, if there is one
abbrev pub IsTextOf : Option RequestOutcome → List ℕ → Type 0
IsTextOf None text = text ≡ []
IsTextOf (Some outcome) text = (framing : Framing) × (text ≡ response_text framing outcome)

-- these bytes begin as a GET or a HEAD does; empty lines may come before its method (RFC 9112, section 2.2)
pub record AsksToSee (input : List ℕ) : Type 0 where
  pub blank : List LineEnd
  pub method : List ℕ
  pub gets : IsTrue (is_get method)
  pub rest : List ℕ
  pub bytes_are : input ≡ print_blank blank ++ method ++ space ∷ rest

-- these bytes may have this outcome: only a GET or a HEAD is shown bytes
abbrev pub IsAsked : List ℕ → RequestOutcome → Type 0
IsAsked input (shown kind bytes) = AsksToSee input
IsAsked input outcome = Unit {0}

-- A plan asks for this command, if these bytes of its body came and this was the answer. A put is accepted only if its
-- whole body came. With any other answer, as Device, it is the put of some body that begins with these bytes.
abbrev pub AsksCommand : Result RequestPlan RequestFault → List ℕ → Result Reply stored.Refusal → Command → Type 0
AsksCommand (Ok (Put name kind n waits)) more answer command =
    (body : List ℕ) × IsBodyOf n more body × IfOk answer (λ _. body ≡ more) × (command ≡ commands.Put name kind body)
AsksCommand (Ok (Delete name)) more answer command = command ≡ commands.Delete name
AsksCommand (Ok Publish) more answer command = command ≡ commands.Publish
AsksCommand (Ok (Group n waits)) more answer command =
    (length more ≡ n) × (items : List Item) × (items_in more ≡ Ok items) × (command ≡ commands.Group items)
AsksCommand plan more answer command = ⊥

-- A put whose body did not come whole is not done, with any answer: every image meanwhile represents the state that the
-- source held.
abbrev pub LeavesCut : {D : Type 0} {device : D → DiskState} → Turn device → Result RequestPlan RequestFault → List ℕ → Type 0
LeavesCut {device = device} turn (Ok (Put name kind n waits)) more = length more < n
    → (s : Source) → Holds device turn.old s → Leaves (device turn.old.disk) (device turn.new.disk) (λ _ image. StandsFor image s)
LeavesCut turn plan more = Unit {0}

-- The bytes of a request, a head and then the bytes that came of a body, ask for this command, which was answered so.
pub record BytesAsk {D : Type 0} {device : D → DiskState} (turn : Turn device) (input : List ℕ) (answer : Result Reply stored.Refusal) (command : Command) : Type 0 where
  pub head : List ℕ
  pub body : List ℕ
  pub read : HeadRead
  pub request : Request
  pub bytes_are : input ≡ head ++ body
  pub asks : Asks head read (Some request)
  pub command_is : AsksCommand request.plan body answer command
  pub cut : LeavesCut turn request.plan body

-- If the source got a command, these bytes ask for it, it came at the moment of the request, and its answer is the
-- outcome, which is sent. If the source got no command, no reply is sent.
abbrev pub IsRequestOutcome : {D : Type 0} {device : D → DiskState} → Turn device → List ℕ → Option AnsweredCommand → Option RequestOutcome → Type 0
IsRequestOutcome turn input None sent = reply_sent sent ≡ []
IsRequestOutcome turn input (Some got) sent =
    BytesAsk turn input got.ack.reply got.asked.0 × (got.asked.1 ≡ turn.now) × (sent ≡ Some (outcome_replied got.ack.reply))

-- One response was written, or a beginning of it, or no byte; the word to go on may come first.
-- `in_turn`, `is`: the source got at most one command, the one that the request asks for, and its answer is the outcome
-- that is sent.
-- This holds on every disk, also on one whose last sync fails: a reply that was sent before the commit would be false
-- there.
-- `asked`: an outcome shows bytes only if the bytes that the reader gave are a GET or a HEAD. The shown bytes may be
-- those of a reply. A response with these bytes to any other request is the reply.
pub record TellsRequest {D : Type 0} {device : D → DiskState} (turn : Turn device) (ends : Ends) : Type 0 where
  pub input : List ℕ
  pub came : Consumes (watched ends.left) (watched ends.rest) input
  pub got : Option AnsweredCommand
  pub sent : Option RequestOutcome
  pub is : IsRequestOutcome turn input got sent
  pub in_turn : InTurn device turn.old (command_of got) (ack_of got) turn.new
  pub asked : IfSome sent (IsAsked input)
  pub first : List ℕ
  pub first_is : (first ≡ []) ⊎ (first ≡ go_on)
  pub text : List ℕ
  pub text_is : IsTextOf sent text
  pub part : List ℕ
  pub left_out : List ℕ
  pub bytes_are : part ++ left_out ≡ first ++ text
  pub took : Appends (watched ends.before) (watched ends.after) part

-- The source got the command that a plan asks for, at this moment, and its answer is the outcome; or it got no command,
-- and the outcome is no reply.
abbrev pub IsPlanOutcome : Result RequestPlan RequestFault → List ℕ → ℕ → Option AnsweredCommand → RequestOutcome → Type 0
IsPlanOutcome plan more now None outcome = told_by outcome ≡ []
IsPlanOutcome plan more now (Some got) outcome =
    AsksCommand plan more got.ack.reply got.asked.0 × (got.asked.1 ≡ now) × (outcome ≡ outcome_replied got.ack.reply)

-- The command that the source got for a plan with this outcome, if any.
pub record Gets {D : Type 0} {device : D → DiskState} (turn : Turn device) (plan : Result RequestPlan RequestFault) (more : List ℕ) (outcome : RequestOutcome) : Type 0 where
  pub got : Option AnsweredCommand
  pub is : IsPlanOutcome plan more turn.now got outcome
  pub cut : LeavesCut turn plan more
  pub in_turn : InTurn device turn.old (command_of got) (ack_of got) turn.new

-- the source gets at most one command for a request, the one that it asks for
abbrev pub RequestsGetOne : {D : Type 0} → (D → DiskState) → Type 0
RequestsGetOne device = (turn : Turn device) (plan : Result RequestPlan RequestFault) (more : List ℕ) (rest : Option (List ℕ)) (outcome : RequestOutcome)
    → RequestGives turn plan more rest outcome → Gets turn plan more outcome

-- a put or a group whose reader failed gets no command
abbrev pub BrokenBodiesIdle : {D : Type 0} → (D → DiskState) → Type 0
BrokenBodiesIdle device = (turn : Turn device) (plan : Result RequestPlan RequestFault) (more : List ℕ)
    → IsBroken turn plan more → IsIdle device turn.old turn.new

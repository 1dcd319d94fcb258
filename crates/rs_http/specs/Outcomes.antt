-- The possible outcomes of a request to a stored source.
use Rattle.std.specs.Prelude.{◌≡◌, ◌⊎◌, ℕ, ◌<◌, if◌then◌else◌, List, [], length, codes, Option, Some, None, Result, Ok, Err, Vec, IfOk, IfErr, IsErrOf}
use Rattle.std.specs.Global.{Global}
use Rattle.std.specs.Io.KnownBytes.{IsAtEnd}
use Rattle.rs_disk.specs.Medium.{DiskState}
use Rattle.rs_model.specs.State.{Source}
use Rattle.rs_model.specs.declared.command.Command.{Command}
use Rattle.rs_model.specs.declared.command.Command.TheVariants as commands
use Rattle.rs_model.specs.declared.command.Item.{Item}
use Rattle.rs_model.specs.declared.command.Reply.{Reply}
use Rattle.rs_items.specs.declared.item.ItemFault.{ItemFault}
use Rattle.rs_lists.specs.declared.doc.Doc.{Doc}
use Rattle.rs_caps.specs.DocumentTexts.{document_text}
use Rattle.rs_caps.specs.Shows.{shown_of}
use Rattle.rs_store.specs.Answered.{Answers}
use Rattle.rs_store.specs.AnswersBody.{AnswersBody}
use Rattle.rs_store.specs.Received.{AnswersFrom, coming_put}
use Rattle.rs_store.specs.Shows.{kind_of}
use Rattle.rs_store.specs.Source.{Stored, state_of}
use Rattle.rs_store.specs.declared.refusal.Refusal as stored
use Rattle.rs_store.specs.declared.refusal.Refusal.TheVariants.{Closed, ReadFault, ShortBody, NoMemory}
use Rattle.rs_io.specs.declared.watch.Watched.{Watched}
use Rattle.rs_io.specs.Watch.{WritesOut}
use Rattle.rs_io.specs.declared.fault.StreamFault.{StreamFault}
use Rattle.rs_io.specs.declared.fault.StreamFault.TheVariants.{Write}
use Rattle.rs_http.specs.declared.request.RequestPlan.{RequestPlan}
use Rattle.rs_http.specs.declared.request.RequestPlan.TheVariants.{ShowBody, ShowDocument, Put, Delete, Publish, Group}
use Rattle.rs_http.specs.declared.request.RequestFault.{RequestFault}
use Rattle.rs_http.specs.declared.request.RequestFault.TheVariants.{NoSuchDocument, Line}
use Rattle.rs_http.specs.declared.response.Framing.{Framing}
use Rattle.rs_http.specs.declared.status.StatusCode.{StatusCode}
use Rattle.rs_http.specs.Groups.{items_in}
use Rattle.rs_http.specs.Turn.{Turn}
use Rattle.rs_http.specs.Responses.{RequestOutcome, faulted, replied, shown, refused, status_of, response_text}

-- the outcome by the answer to a command
abbrev pub outcome_replied : Result Reply stored.Refusal → RequestOutcome
outcome_replied (Ok reply) = replied reply
outcome_replied (Err refusal) = refused refusal

-- the source got a command, and answered it
pub record RunComesTo {D : Type 0} {device : D → DiskState} (turn : Turn device) (command : Command) (outcome : RequestOutcome) : Type 0 where
  pub result : Result Reply stored.Refusal
  pub answers : Answers device turn.old turn.new command turn.now result
  pub outcome_is : outcome ≡ outcome_replied result

-- the source got a put of the next n bytes of the input, and answered it; these bytes came, and the reader did not fail
pub record PutComesTo {D : Type 0} {device : D → DiskState} (turn : Turn device) (name kind : List ℕ) (n : ℕ) (came : List ℕ) (outcome : RequestOutcome) : Type 0 where
  pub result : Result Reply stored.Refusal
  pub answers : AnswersFrom device turn.old turn.new (coming_put name kind n turn.now) came result
  pub unbroken : IsErrOf result ReadFault → ⊥
  pub outcome_is : outcome ≡ outcome_replied result

-- the outcome by the answer to a read of a body: its bytes are shown with their recorded type
abbrev pub IsShownAs : Source → List ℕ → Result (Vec ℕ Global) stored.Refusal → RequestOutcome → Type 0
IsShownAs s name (Ok bytes) outcome = (kind : List ℕ) × (kind_of name s ≡ Some kind) × (outcome ≡ shown kind bytes.items)
IsShownAs s name (Err refusal) outcome = outcome ≡ refused refusal

-- the source was asked for a body, and answered
pub record ReadComesTo {D : Type 0} {device : D → DiskState} (turn : Turn device) (name : List ℕ) (outcome : RequestOutcome) : Type 0 where
  pub result : Result (Vec ℕ Global) stored.Refusal
  pub answers : AnswersBody device turn.old turn.new name result
  pub outcome_is : IsShownAs (state_of device turn.old) name result outcome

-- a document, if it exists
abbrev pub document_or_none : Option (List ℕ) → RequestOutcome
document_or_none (Some bytes) = shown (codes "application/xml") bytes
document_or_none None = faulted NoSuchDocument

-- the document of the state of the source, unless the source is closed
abbrev pub document_shown : {D : Type 0} → (D → DiskState) → Stored D → Doc → RequestOutcome
document_shown device old doc =
    if old.is_closed then refused Closed else document_or_none (document_text (shown_of (state_of device old)) doc)

-- the input ended within a body of n bytes, of which these came
abbrev pub BodyIsShort : ℕ → List ℕ → Option (List ℕ) → RequestOutcome → Type 0
BodyIsShort n came rest outcome = (length came < n) × IsAtEnd rest × (outcome ≡ refused ShortBody)

-- the body of n bytes came whole, and this is the first fault of its lines
abbrev pub BodyIsFaulty : ℕ → List ℕ → RequestOutcome → Type 0
BodyIsFaulty n came outcome = (length came ≡ n) × (fault : ItemFault) × (items_in came ≡ Err fault) × (outcome ≡ faulted (Line fault))

-- there was no memory for the body, and no byte of it was read
abbrev pub BodyLacksMemory : List ℕ → RequestOutcome → Type 0
BodyLacksMemory came outcome = (came ≡ []) × (outcome ≡ refused NoMemory)

-- the body of n bytes came whole, and there was no memory for its items
abbrev pub ItemsLackMemory : ℕ → List ℕ → RequestOutcome → Type 0
ItemsLackMemory n came outcome = (length came ≡ n) × (outcome ≡ refused NoMemory)

-- the reasons why the source did not get a group of n bytes, of which these came, and the rest was left
abbrev pub UnaskedGroup : ℕ → List ℕ → Option (List ℕ) → RequestOutcome → Type 0
UnaskedGroup n came rest outcome =
    BodyIsShort n came rest outcome ⊎ BodyIsFaulty n came outcome ⊎ BodyLacksMemory came outcome ⊎ ItemsLackMemory n came outcome

-- the body of n bytes came whole and has no fault, and the source got all its items in one command
pub record AskedGroup {D : Type 0} {device : D → DiskState} (turn : Turn device) (n : ℕ) (came : List ℕ) (outcome : RequestOutcome) : Type 0 where
  pub items : List Item
  pub whole : length came ≡ n
  pub are : items_in came ≡ Ok items
  pub comes : RunComesTo turn (commands.Group items) outcome

-- A group of the next n bytes of the input was read, and the reader did not fail. These bytes came, and the rest was
-- left. Either the source did not get the group and is unchanged, or it answered the group.
abbrev pub GroupComesTo : {D : Type 0} {device : D → DiskState} → Turn device → ℕ → List ℕ → Option (List ℕ) → RequestOutcome → Type 0
GroupComesTo turn n came rest outcome =
    ((turn.new ≡ turn.old) × UnaskedGroup n came rest outcome) ⊎ AskedGroup turn n came outcome

-- The possible outcomes of a plan, if these bytes were read past the head and the rest was left. Only a put and a group
-- read any. If the body of a put is short, the input had ended.
abbrev pub PlanGives : {D : Type 0} {device : D → DiskState} → Turn device → RequestPlan → List ℕ → Option (List ℕ) → RequestOutcome → Type 0
PlanGives turn (ShowBody name) more rest outcome = (more ≡ []) × ReadComesTo turn name outcome
PlanGives {device = device} turn (ShowDocument doc) more rest outcome =
    (more ≡ []) × (outcome ≡ document_shown device turn.old doc) × (turn.new ≡ turn.old)
PlanGives turn (Put name kind n waits) more rest outcome =
    (put : PutComesTo turn name kind n more outcome) × (IsErrOf put.result ShortBody → IsAtEnd rest)
PlanGives turn (Delete name) more rest outcome = (more ≡ []) × RunComesTo turn (commands.Delete name) outcome
PlanGives turn Publish more rest outcome = (more ≡ []) × RunComesTo turn commands.Publish outcome
PlanGives turn (Group n waits) more rest outcome = GroupComesTo turn n more rest outcome

-- the possible outcomes of a request; without a plan no byte is read and the source is unchanged
abbrev pub RequestGives : {D : Type 0} {device : D → DiskState} → Turn device → Result RequestPlan RequestFault → List ℕ → Option (List ℕ) → RequestOutcome → Type 0
RequestGives turn (Ok plan) more rest outcome = PlanGives turn plan more rest outcome
RequestGives turn (Err reason) more rest outcome = (more ≡ []) × (outcome ≡ faulted reason) × (turn.new ≡ turn.old)

-- the response to an outcome was written, and this is its status; or the writer failed within it
abbrev pub Sends : {W : Type 0} → (W → Option (List ℕ)) → Watched W → Watched W → Framing → RequestOutcome → Result StatusCode StreamFault → Type 0
Sends contents old new framing outcome result =
    IfOk result (λ status. status ≡ status_of outcome)
    × WritesOut contents old new result (response_text framing outcome)
    × IfErr result (λ fault. fault ≡ Write)

-- an outcome with this property is answered
pub record Responds {W : Type 0} (contents : W → Option (List ℕ)) (old new : Watched W) (framing : Framing) (comes : RequestOutcome → Type 0)
    (result : Result StatusCode StreamFault) : Type 0 where
  pub outcome : RequestOutcome
  pub comes_of_it : comes outcome
  pub sends : Sends contents old new framing outcome result

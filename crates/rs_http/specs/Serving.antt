-- One request to a source: the bytes read, the bytes written, and the source after it.
use Rattle.std.specs.Prelude.{◌≡◌, ◌⊎◌, ◌/◌, ◌<◌, ℕ, true, List, [], length, ◌++◌, Option, Some, Result, Ok, IfOk, IsErrOf}
use Rattle.std.specs.Io.KnownBytes.{Consumes, Appends, IsAtEnd}
use Rattle.httpdate.specs.Date.{unix_secs}
use Rattle.httpdate.specs.declared.date.HttpDate.{HttpDate}
use Rattle.rs_disk.specs.Medium.{DiskState}
use Rattle.rs_io.specs.Watch.{watched, failures, EndFailed, PutFailed, FlushFailed, TellsEnd, End, Ends}
use Rattle.rs_store.specs.Received.{IsCutShort, ReadsFor, coming_put}
use Rattle.rs_recovery.specs.Prefixes.{Recovers}
use Rattle.rs_io.specs.declared.fault.StreamFault.{StreamFault}
use Rattle.rs_io.specs.declared.fault.StreamFault.TheVariants.{Read, Write}
use Rattle.rs_http.specs.declared.head.HeadRead.{HeadRead}
use Rattle.rs_http.specs.declared.head.HeadRead.TheVariants.{Ended}
use Rattle.rs_http.specs.declared.request.RequestPlan.{RequestPlan}
use Rattle.rs_http.specs.declared.request.RequestPlan.TheVariants.{Put, Group}
use Rattle.rs_http.specs.declared.request.RequestFault.{RequestFault}
use Rattle.rs_http.specs.declared.request.Request.{Request}
use Rattle.rs_http.specs.declared.response.Framing.{Framing}
use Rattle.rs_http.specs.declared.status.StatusCode.{StatusCode}
use Rattle.rs_http.specs.declared.serve.Served.{Served}
use Rattle.rs_http.specs.declared.serve.Served.TheVariants.{Answered, Nothing}
use Rattle.rs_http.specs.Turn.{Turn}
use Rattle.rs_http.specs.Head.{head_limit, HeadIs, HasNoEnd}
use Rattle.rs_http.specs.Requests.{Asks}
use Rattle.rs_http.specs.Responses.{RequestOutcome, status_of, response_text, go_on}
use Rattle.rs_http.specs.Outcomes.{RequestGives, Responds}
use Rattle.rs_http.specs.Counted.{RequestRecovers}
use Rattle.rs_http.specs.Walked.{MakesWalk, MakesNoEvent}

-- the bytes written before the source sees the request: the word to go on, if the client waits for it
abbrev pub preface_of : Result RequestPlan RequestFault → List ℕ
preface_of (Ok (Put name kind n true)) = go_on
preface_of (Ok (Group n true)) = go_on
preface_of plan = []

-- the number of reads for a body that may give no byte: one, if there is a body to read
abbrev pub empty_reads_for : Result RequestPlan RequestFault → ℕ
empty_reads_for (Ok (Put name kind n waits)) = 1
empty_reads_for (Ok (Group n waits)) = 1
empty_reads_for plan = 0

-- a put or a group was not done: these bytes of its body came, and the reader failed
abbrev pub IsBroken : {D : Type 0} {device : D → DiskState} → Turn device → Result RequestPlan RequestFault → List ℕ → Type 0
IsBroken {device = device} turn (Ok (Put name kind n waits)) came = IsCutShort device turn.old turn.new (coming_put name kind n turn.now) came
IsBroken turn (Ok (Group n waits)) came = (length came < n) × (turn.new ≡ turn.old)
IsBroken turn plan came = ⊥

-- A writer took all of `first` and a beginning of `text`, and failed. Either a write failed, and no flush; or it took
-- all of `text`, and a flush failed.
pub record TakesPart (before after : End) (first text : List ℕ) : Type 0 where
  pub part : List ℕ
  pub left_out : List ℕ
  pub bytes_are : part ++ left_out ≡ text
  pub took : Appends (watched before) (watched after) (first ++ part)
  pub failed : PutFailed before after ⊎ ((left_out ≡ []) × FlushFailed before after)

-- the bytes of an end that is seen by its bytes
abbrev pub bytes_of : Option (List ℕ) → Option (List ℕ)
bytes_of bytes = bytes

-- How the answer to a plan ends. These bytes were read past the head, all reads but one gave some, and the result is
-- `Read` only if the reader failed: then it failed in the body of a put or of a group, and no byte is written.
-- Otherwise the outcome of the plan is answered: its response is written, or a beginning of it if the writer failed.
pub record PlanEnds {D : Type 0} {device : D → DiskState} (turn : Turn device) (plan : Result RequestPlan RequestFault) (framing : Framing)
    (ends : Ends) (result : Result StatusCode StreamFault) : Type 0 where
  pub more : List ℕ
  pub came : Consumes (watched ends.left) (watched ends.rest) more
  pub reads : ReadsFor (empty_reads_for plan) ends.left ends.rest more
  pub reader : TellsEnd (IsErrOf result Read) ends.left ends.rest
  pub broken : IsErrOf result Read → (ends.after ≡ ends.before) × IsBroken turn plan more
  pub answered : ¬ IsErrOf result Read
      → Responds bytes_of ends.before ends.after framing (RequestGives turn plan more (watched ends.rest)) result

-- the outcome of a request is answered: this is its status, and its response is written, after the word to go on if
-- that was due
pub record IsAnswered {D : Type 0} {device : D → DiskState} (turn : Turn device) (request : Request) (more : List ℕ) (rest : Option (List ℕ))
    (output : List ℕ) (status : StatusCode) : Type 0 where
  pub outcome : RequestOutcome
  pub date : HttpDate
  pub dated : unix_secs date ≡ turn.now / 1000
  pub gives : RequestGives turn request.plan more rest outcome
  pub status_is : status ≡ status_of outcome
  pub written : output ≡ preface_of request.plan ++ response_text (record { date = date; is_head = request.is_head }) outcome

-- a request had its outcome, and the writer failed in the response: it took a beginning of it, after the word to go on
-- if that was due
pub record IsCutOff {D : Type 0} {device : D → DiskState} (turn : Turn device) (request : Request) (more : List ℕ) (ends : Ends) : Type 0 where
  pub outcome : RequestOutcome
  pub date : HttpDate
  pub dated : unix_secs date ≡ turn.now / 1000
  pub gives : RequestGives turn request.plan more (watched ends.rest) outcome
  pub took : TakesPart ends.before ends.after (preface_of request.plan) (response_text (record { date = date; is_head = request.is_head }) outcome)

-- the writer failed in the word to go on or in its flush; no byte of a body was read, and the source is unchanged
abbrev pub IsUnsaid : {D : Type 0} {device : D → DiskState} → Turn device → Request → List ℕ → Ends → Type 0
IsUnsaid turn request more ends =
    (preface_of request.plan ≡ go_on) × (more ≡ []) × (turn.new ≡ turn.old) × TakesPart ends.before ends.after [] go_on

-- How the answer to a request ends. These bytes were read past the head, and the result is `Read` or `Write` only if
-- that end failed. The outcome of the request is answered. Or the reader failed in a body, and at most the word to go
-- on is written. Or the writer failed: in that word, or in the response after the request had its outcome.
pub record RequestEnds {D : Type 0} {device : D → DiskState} (turn : Turn device) (request : Request) (ends : Ends) (result : Result StatusCode StreamFault) : Type 0 where
  pub more : List ℕ
  pub came : Consumes (watched ends.left) (watched ends.rest) more
  pub reads : ReadsFor (empty_reads_for request.plan) ends.left ends.rest more
  pub reader : TellsEnd (IsErrOf result Read) ends.left ends.rest
  pub writer : TellsEnd (IsErrOf result Write) ends.before ends.after
  pub answered : IfOk result (λ status. (output : List ℕ) × Appends (watched ends.before) (watched ends.after) output
      × IsAnswered turn request more (watched ends.rest) output status)
  pub broken : IsErrOf result Read
      → Appends (watched ends.before) (watched ends.after) (preface_of request.plan) × IsBroken turn request.plan more
  pub stands : IsErrOf result Write → IsUnsaid turn request more ends ⊎ IsCutOff turn request more ends

-- An input is the bytes of a head, which ask for this request, and the bytes that were read past it. `behind` is the
-- rest that the reader had after the head: empty, if the input ended within the head.
pub record Reads (ends : Ends) (input more : List ℕ) (request : Request) : Type 0 where
  pub bytes : List ℕ
  pub read : HeadRead
  pub behind : Option (List ℕ)
  pub input_is : input ≡ bytes ++ more
  pub head : HeadIs bytes read
  pub came : Consumes (watched ends.left) behind bytes
  pub ended : read ≡ Ended → IsAtEnd behind
  pub passed : Consumes behind (watched ends.rest) more
  pub asks : Asks bytes read (Some request)

-- The bytes written for an input: none for an empty input, and otherwise the response to the request at its front.
-- Whenever the disk stops, it holds the state before, or after the command that counts; and the request makes a walk of
-- at most one event.
abbrev pub IsResponse : {D : Type 0} {device : D → DiskState} → Turn device → Ends → List ℕ → List ℕ → Served → Type 0
IsResponse turn ends input output Nothing = (input ≡ []) × IsAtEnd (watched ends.rest) × (output ≡ []) × (turn.new ≡ turn.old)
IsResponse turn ends input output (Answered status) =
    (more : List ℕ) × (request : Request) × Reads ends input more request
    × (answered : IsAnswered turn request more (watched ends.rest) output status)
    × RequestRecovers turn request.plan more answered.outcome × MakesWalk turn request more answered.outcome

-- A request was served: no call of either end failed, and the response to the input was written. `sparing`: all reads
-- but one gave a byte of the input.
pub record Serves {D : Type 0} {device : D → DiskState} (turn : Turn device) (ends : Ends) (served : Served) : Type 0 where
  pub input : List ℕ
  pub output : List ℕ
  pub came : Consumes (watched ends.left) (watched ends.rest) input
  pub sparing : ReadsFor 1 ends.left ends.rest input
  pub written : Appends (watched ends.before) (watched ends.after) output
  pub reader : failures ends.rest ≡ failures ends.left
  pub writer : failures ends.after ≡ failures ends.before
  pub responds : IsResponse turn ends input output served

-- The bytes written and the effect, if the reader failed within an input. In the head: no byte and no effect. In the
-- body of a put or of a group: at most the word to go on was written; the request is not done, whenever the disk stops,
-- and is no event.
abbrev pub BreaksWithin : {D : Type 0} {device : D → DiskState} → Turn device → Ends → List ℕ → List ℕ → Type 0
BreaksWithin {device = device} turn ends input output =
    (HasNoEnd input × (length input < head_limit) × (output ≡ []) × (turn.new ≡ turn.old))
    ⊎ ((more : List ℕ) × (request : Request) × Reads ends input more request × (output ≡ preface_of request.plan)
    × IsBroken turn request.plan more × Recovers device turn.old [] turn.new × MakesNoEvent turn)

-- a call of the reader failed within the input, and no call of the writer
pub record Breaks {D : Type 0} {device : D → DiskState} (turn : Turn device) (ends : Ends) : Type 0 where
  pub input : List ℕ
  pub output : List ℕ
  pub came : Consumes (watched ends.left) (watched ends.rest) input
  pub sparing : ReadsFor 1 ends.left ends.rest input
  pub written : Appends (watched ends.before) (watched ends.after) output
  pub reader : EndFailed ends.left ends.rest
  pub writer : failures ends.after ≡ failures ends.before
  pub within : BreaksWithin turn ends input output

-- A request had its outcome, and the writer failed in the response. Whenever the disk stops, it holds the state before,
-- or after the command that counts; and the request makes a walk.
abbrev pub Stands : {D : Type 0} {device : D → DiskState} → Turn device → Request → List ℕ → Ends → Type 0
Stands turn request more ends =
    (cut : IsCutOff turn request more ends) × RequestRecovers turn request.plan more cut.outcome × MakesWalk turn request more cut.outcome

-- A call of the writer failed, and no call of the reader: in the word to go on, and the source is unchanged; or in the
-- response to the request at the front of the input, after the request had its outcome.
pub record Halts {D : Type 0} {device : D → DiskState} (turn : Turn device) (ends : Ends) : Type 0 where
  pub input : List ℕ
  pub came : Consumes (watched ends.left) (watched ends.rest) input
  pub sparing : ReadsFor 1 ends.left ends.rest input
  pub reader : failures ends.rest ≡ failures ends.left
  pub writer : EndFailed ends.before ends.after
  pub more : List ℕ
  pub request : Request
  pub reads : Reads ends input more request
  pub stands : IsUnsaid turn request more ends ⊎ Stands turn request more ends

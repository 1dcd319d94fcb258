-- Laws of requests.
use Rattle.std.specs.Prelude.{ℕ, List, [], Option, Some, Result}
use Rattle.rs_disk.specs.Medium.{DiskState}
use Rattle.rs_model.specs.declared.command.Command.{Command}
use Rattle.rs_recovery.specs.Prefixes.{IsRunOf, Recovers}
use Rattle.rs_http.specs.declared.head.HeadRead.{HeadRead}
use Rattle.rs_http.specs.declared.request.RequestPlan.{RequestPlan}
use Rattle.rs_http.specs.declared.request.RequestFault.{RequestFault}
use Rattle.rs_http.specs.declared.request.Request.{Request}
use Rattle.rs_http.specs.Turn.{Turn}
use Rattle.rs_http.specs.Requests.{Asks}
use Rattle.rs_http.specs.Responses.{RequestOutcome}
use Rattle.rs_http.specs.Outcomes.{RequestGives}
use Rattle.rs_http.specs.Counted.{Counts, RequestRecovers}
use Rattle.rs_http.specs.Walked.{MakesWalk, MakesNoEvent}
use Rattle.rs_http.specs.Serving.{IsBroken}

-- a request is a run of its command that counts, or of no command
abbrev pub RequestsAreRuns : {D : Type 0} → (D → DiskState) → Type 0
RequestsAreRuns device = (turn : Turn device) (plan : Result RequestPlan RequestFault) (more : List ℕ) (rest : Option (List ℕ)) (outcome : RequestOutcome)
    → RequestGives turn plan more rest outcome
    → (counted : List (Command × ℕ)) → Counts turn.now plan more outcome counted → IsRunOf device turn.old counted turn.new

-- a put or a group whose reader failed is a run of no command
abbrev pub BrokenBodiesAreRuns : {D : Type 0} → (D → DiskState) → Type 0
BrokenBodiesAreRuns device = (turn : Turn device) (plan : Result RequestPlan RequestFault) (more : List ℕ)
    → IsBroken turn plan more → IsRunOf device turn.old [] turn.new

-- for any outcome of a request: whenever the disk stops, it holds the state before, or after the command that counts
abbrev pub RequestsRecover : {D : Type 0} → (D → DiskState) → Type 0
RequestsRecover device = (turn : Turn device) (plan : Result RequestPlan RequestFault) (more : List ℕ) (rest : Option (List ℕ)) (outcome : RequestOutcome)
    → RequestGives turn plan more rest outcome → RequestRecovers turn plan more outcome

-- a put or a group whose reader failed is not done, whenever the disk stops
abbrev pub BrokenBodiesRecover : {D : Type 0} → (D → DiskState) → Type 0
BrokenBodiesRecover device = (turn : Turn device) (plan : Result RequestPlan RequestFault) (more : List ℕ)
    → IsBroken turn plan more → Recovers device turn.old [] turn.new

-- every request that the bytes of a head ask for makes a walk, with any outcome
abbrev pub RequestsMakeWalks : {D : Type 0} → (D → DiskState) → Type 0
RequestsMakeWalks device = (turn : Turn device) (bytes : List ℕ) (read : HeadRead) (request : Request) (more : List ℕ) (rest : Option (List ℕ)) (outcome : RequestOutcome)
    → Asks bytes read (Some request) → RequestGives turn request.plan more rest outcome
    → MakesWalk turn request more outcome

-- a put or a group whose reader failed leaves a walk of no event
abbrev pub BrokenBodiesMakeNoEvent : {D : Type 0} → (D → DiskState) → Type 0
BrokenBodiesMakeNoEvent device = (turn : Turn device) (plan : Result RequestPlan RequestFault) (more : List ℕ)
    → IsBroken turn plan more → MakesNoEvent turn

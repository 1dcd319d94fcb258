-- The walk that a request makes.
use Rattle.std.specs.Prelude.{◌≡◌, ℕ, Bool, false, List, [], ◌∷◌, Option, Some, None, Result, Ok, Err, IsTrue}
use Rattle.rs_disk.specs.Medium.{DiskState}
use Rattle.rs_model.specs.State.{Source}
use Rattle.rs_model.specs.declared.command.Command.{Command}
use Rattle.rs_model.specs.declared.command.Command.TheVariants as commands
use Rattle.rs_model.specs.declared.command.Item.{Item}
use Rattle.rs_model.specs.declared.event.Event.{Event}
use Rattle.rs_model.specs.declared.event.Event.TheVariants.{Fetch}
use Rattle.rs_store.specs.Received.{IsBodyOf}
use Rattle.rs_store.specs.Source.{Holds}
use Rattle.rs_store.specs.declared.refusal.Refusal.TheVariants.{ReadFault, ShortBody}
use Rattle.rs_recovery.specs.Walked.{CommandEvents, LeavesWalk}
use Rattle.rs_caps.specs.Answer.{answer}
use Rattle.rs_caps.specs.PathAnswers.{body_path}
use Rattle.rs_caps.specs.Paths.{path_of}
use Rattle.rs_http.specs.declared.request.RequestPlan.{RequestPlan}
use Rattle.rs_http.specs.declared.request.RequestPlan.TheVariants.{ShowBody, ShowDocument, Put, Delete, Publish, Group}
use Rattle.rs_http.specs.declared.request.RequestFault.{RequestFault}
use Rattle.rs_http.specs.declared.request.Request.{Request}
use Rattle.rs_http.specs.Groups.{items_asked}
use Rattle.rs_http.specs.Turn.{Turn}
use Rattle.rs_http.specs.Responses.{RequestOutcome, replied, shown, refused}

-- the event of a command, by its outcome
abbrev pub RunEvents : Source → Command → ℕ → RequestOutcome → List Event → Type 0
RunEvents s command now (replied reply) events = CommandEvents s command now (Ok reply) events
RunEvents s command now (refused refusal) events = CommandEvents s command now (Err refusal) events
RunEvents s command now outcome events = events ≡ []

-- the event of a put: no event if its body did not come whole
abbrev pub PutEvents : Source → Command → ℕ → RequestOutcome → List Event → Type 0
PutEvents s command now (refused ReadFault) events = events ≡ []
PutEvents s command now (refused ShortBody) events = events ≡ []
PutEvents s command now outcome events = RunEvents s command now outcome events

-- the event of a group, one for all its items: no event if it asks for no items
abbrev pub GroupEvents : Source → Option (List Item) → ℕ → RequestOutcome → List Event → Type 0
GroupEvents s None now outcome events = events ≡ []
GroupEvents s (Some items) now outcome events = RunEvents s (commands.Group items) now outcome events

-- a GET fetches the bytes that its response shows, which are answered at its path; a HEAD makes no event
abbrev pub ShowEvents : Bool → Source → List ℕ → RequestOutcome → List Event → Type 0
ShowEvents false s path (shown kind bytes) events = (answer s path ≡ Some bytes) × (events ≡ Fetch ∷ [])
ShowEvents is_head s path outcome events = events ≡ []

-- the event of a plan in a state and at a moment, if any; a put has this body, and these bytes of a group came
abbrev pub PlanEvents : Bool → Source → ℕ → Result RequestPlan RequestFault → List ℕ → RequestOutcome → (List Event → Type 0)
PlanEvents is_head s now (Ok (Put name kind n waits)) body outcome = PutEvents s (commands.Put name kind body) now outcome
PlanEvents is_head s now (Ok (Delete name)) body outcome = RunEvents s (commands.Delete name) now outcome
PlanEvents is_head s now (Ok Publish) body outcome = RunEvents s commands.Publish now outcome
PlanEvents is_head s now (Ok (Group n waits)) body outcome = GroupEvents s (items_asked n body) now outcome
PlanEvents is_head s now (Ok (ShowBody name)) body outcome = ShowEvents is_head s (body_path name) outcome
PlanEvents is_head s now (Ok (ShowDocument doc)) body outcome = ShowEvents is_head s (path_of doc) outcome
PlanEvents is_head s now (Err reason) body outcome = (λ events. events ≡ [])

-- a put may have this body, if these bytes of it came; the body of a group is the bytes that came
abbrev pub IsBodyFor : Result RequestPlan RequestFault → List ℕ → List ℕ → Type 0
IsBodyFor (Ok (Put name kind n waits)) more body = IsBodyOf n more body
IsBodyFor (Ok (Group n waits)) more body = body ≡ more
IsBodyFor plan more body = Unit {0}

-- The source held a state, and its device has followed the model: then the request leaves a walk of its one event or of
-- no event. If a put was answered before its whole body was read, this holds for every body that begins so, and there
-- is one.
pub record MakesWalk {D : Type 0} {device : D → DiskState} (turn : Turn device) (request : Request) (more : List ℕ) (outcome : RequestOutcome) : Type 0 where
  pub some_body : (body : List ℕ) × IsBodyFor request.plan more body
  pub walks : (s : Source) (body : List ℕ) → Holds device turn.old s → IsTrue (device turn.new.disk).honest → IsBodyFor request.plan more body
      → LeavesWalk device s (PlanEvents request.is_head s turn.now request.plan body outcome) turn.new

-- a source that held a state is left with a walk of no event
abbrev pub MakesNoEvent : {D : Type 0} {device : D → DiskState} → Turn device → Type 0
MakesNoEvent {device = device} turn = (s : Source) → Holds device turn.old s → LeavesWalk device s (λ events. events ≡ []) turn.new

-- A request is a run of at most one command that counts.
use Rattle.std.proofs.Common.{◌≡◌, ◌⊎◌, inl, inr, ◌≤◌, ℕ, List, [], length, Option, Some, None, Result, Ok, Err, refl, arith}
use Rattle.rs_disk.specs.Medium.{DiskState}
use Rattle.rs_io.specs.Watch.{watched, Ends}
use Rattle.rs_model.specs.declared.command.Command.{Command}
use Rattle.rs_model.specs.declared.command.Command.TheVariants as commands
use Rattle.rs_model.specs.declared.command.Item.{Item}
use Rattle.rs_store.specs.declared.refusal.Refusal.TheVariants.{Device}
use Rattle.rs_http.specs.declared.status.StatusCode.{StatusCode}
use Rattle.rs_io.specs.declared.fault.StreamFault.{StreamFault}
use Rattle.rs_io.specs.declared.fault.StreamFault.TheVariants.{Read, Write}
use Rattle.rs_http.specs.declared.request.RequestFault.TheVariants.{BadHead}
use Rattle.rs_http.specs.declared.request.RequestPlan.{RequestPlan}
use Rattle.rs_http.specs.declared.request.RequestPlan.TheVariants.{ShowBody, ShowDocument, Put, Delete, Publish, Group}
use Rattle.rs_http.specs.declared.request.RequestFault.{RequestFault}
use Rattle.rs_http.specs.declared.request.Request.{Request}
use Rattle.rs_http.specs.Groups.{items_asked}
use Rattle.rs_http.specs.Outcomes.{RequestGives}
use Rattle.rs_http.specs.Turn.{Turn}
use Rattle.rs_http.specs.Responses.{RequestOutcome, faulted, replied, refused}
use Rattle.rs_http.specs.Counted.{counted_with, counted_group, Counts, RunsAtMost}
use Rattle.rs_http.specs.Laws.{RequestsAreRuns, BrokenBodiesAreRuns}
use Rattle.rs_http.specs.Serving.{IsUnsaid, IsCutOff, RequestEnds}
use Rattle.rs_http.proofs.Walks.{some_body}

few : (command : Command) (now : ℕ) (outcome : RequestOutcome) → length (counted_with command now outcome) ≤ 1
few command now (replied reply) = omega arith
few command now (refused Device) = omega arith
few command now outcome = omega arith

few_grouped : (asked : Option (List Item)) (now : ℕ) (outcome : RequestOutcome) → length (counted_group asked now outcome) ≤ 1
few_grouped None now outcome = omega arith
few_grouped (Some items) now outcome = few (commands.Group items) now outcome

module _ {D : Type 0} {device : D → DiskState} (runs : RequestsAreRuns device) (cut : BrokenBodiesAreRuns device) (turn : Turn device) where
  -- the command that counts, if any
  some_counted : (plan : Result RequestPlan RequestFault) (more : List ℕ) (rest : Option (List ℕ)) (outcome : RequestOutcome) → RequestGives turn plan more rest outcome
      → (counted : List (Command × ℕ)) × (length counted ≤ 1) × Counts turn.now plan more outcome counted
  some_counted (Ok (ShowBody name)) more rest outcome gives = ([], omega arith, refl)
  some_counted (Ok (ShowDocument doc)) more rest outcome gives = ([], omega arith, refl)
  some_counted (Ok (Put name kind n waits)) more rest outcome gives =
      let body = some_body turn (Ok (Put name kind n waits)) more rest outcome gives in
      let put : Command = commands.Put name kind body.0 in
      (counted_with put turn.now outcome, few put turn.now outcome, (body.0, body.1, refl))
  some_counted (Ok (Delete name)) more rest outcome gives =
      (counted_with (commands.Delete name) turn.now outcome, few (commands.Delete name) turn.now outcome, refl)
  some_counted (Ok Publish) more rest outcome gives = (counted_with commands.Publish turn.now outcome, few commands.Publish turn.now outcome, refl)
  some_counted (Ok (Group n waits)) more rest outcome gives =
      (counted_group (items_asked n more) turn.now outcome, few_grouped (items_asked n more) turn.now outcome, refl)
  some_counted (Err reason) more rest outcome gives = ([], omega arith, refl)

  gives_runs : (plan : Result RequestPlan RequestFault) (more : List ℕ) (rest : Option (List ℕ)) (outcome : RequestOutcome) → RequestGives turn plan more rest outcome
      → RunsAtMost device turn.old 1 turn.new
  gives_runs plan more rest outcome gives =
      let some = some_counted plan more rest outcome gives in
      (some.0, some.1, runs turn plan more rest outcome gives some.0 some.2)

  -- the source is unchanged, as after a bad head
  pub still_runs : turn.new ≡ turn.old → RunsAtMost device turn.old 1 turn.new
  still_runs same = gives_runs (Err BadHead) [] None (faulted BadHead) (refl, refl, same)

  stands_runs : (request : Request) (more : List ℕ) (ends : Ends) → IsUnsaid turn request more ends ⊎ IsCutOff turn request more ends → RunsAtMost device turn.old 1 turn.new
  stands_runs request more ends (inl unsaid) = still_runs unsaid.2
  stands_runs request more ends (inr off) = gives_runs request.plan more (watched ends.rest) off.outcome off.gives

  -- every outcome of a request
  pub request_runs : (request : Request) (ends : Ends) (result : Result StatusCode StreamFault) → RequestEnds turn request ends result → RunsAtMost device turn.old 1 turn.new
  request_runs request ends (Ok status) e = gives_runs request.plan e.more (watched ends.rest) e.answered.2.outcome e.answered.2.gives
  request_runs request ends (Err Read) e = ([], omega arith, cut turn request.plan e.more (e.broken refl).1)
  request_runs request ends (Err Write) e = stands_runs request e.more ends (e.stands refl)

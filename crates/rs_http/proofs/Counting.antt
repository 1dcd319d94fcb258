-- A request is a run.
use Rattle.std.proofs.Common.{◌≡◌, inl, inr, ℕ, List, [], length, take, Option, Result, Ok, Err, refl, ap, sym, ◌∙◌, subst}
use Rattle.std.proofs.Math.Seq.{take-length}
use Rattle.rs_disk.specs.Medium.{DiskState}
use Rattle.rs_model.specs.declared.command.Command.{Command}
use Rattle.rs_model.specs.declared.command.Command.TheVariants as commands
use Rattle.rs_model.specs.declared.command.Item.{Item}
use Rattle.rs_model.specs.declared.command.Reply.{Reply}
use Rattle.rs_store.specs.Answered.{Answers}
use Rattle.rs_store.specs.Received.{IsBodyOf, AnswersFrom, coming_put}
use Rattle.rs_store.specs.Laws.{RestIsIdle}
use Rattle.rs_store.specs.Runs.{IsIdle}
use Rattle.rs_store.specs.Source.{Stored}
use Rattle.rs_store.specs.declared.refusal.Refusal as stored
use Rattle.rs_store.specs.declared.refusal.Refusal.TheVariants.{ReadFault, ShortBody}
use Rattle.rs_recovery.specs.Prefixes.{counted_as, IsRunOf, IdleIsRun, CommandIsRun}
use Rattle.rs_recovery.specs.Turns.{ReadingsIdle, CutPutsIdle}
use Rattle.rs_http.specs.declared.request.RequestPlan.{RequestPlan}
use Rattle.rs_http.specs.declared.request.RequestPlan.TheVariants.{ShowBody, ShowDocument, Put, Delete, Publish, Group}
use Rattle.rs_http.specs.declared.request.RequestFault.{RequestFault}
use Rattle.rs_http.specs.Groups.{items_asked}
use Rattle.rs_http.specs.Outcomes.{GroupComesTo, RequestGives, outcome_replied}
use Rattle.rs_http.specs.Turn.{Turn}
use Rattle.rs_http.specs.Responses.{RequestOutcome}
use Rattle.rs_http.specs.Counted.{counted_with, counted_group, Counts}
use Rattle.rs_http.specs.Serving.{IsBroken}
use Rattle.rs_http.proofs.Groups.{asked_items, unasked_counts}

-- a command counts by the outcome as by the answer of the source
counts_alike : (command : Command) (now : ℕ) (result : Result Reply stored.Refusal) → counted_with command now (outcome_replied result) ≡ counted_as command now result
counts_alike command now (Ok reply) = refl
counts_alike command now (Err refusal) = refl

-- a body that came whole is the only one
pub whole_body : (n : ℕ) (came body : List ℕ) → length came ≡ n → IsBodyOf n came body → body ≡ came
whole_body n came body all is =
    let same : length body ≡ length came = is.len ∙ sym all in
    sym (take-length body) ∙ ap (λ (m : ℕ). take m body) same ∙ is.front

module _ {D : Type 0} (device : D → DiskState) (rest : RestIsIdle device) (reading : ReadingsIdle device) (cut : CutPutsIdle device)
    (idle : IdleIsRun device) (one : CommandIsRun device) (turn : Turn device) where
  -- no command that counts was given
  idles : IsIdle device turn.old turn.new → IsRunOf device turn.old [] turn.new
  idles is = idle turn.old turn.new is

  -- the source is unchanged
  still_run : turn.new ≡ turn.old → IsRunOf device turn.old [] turn.new
  still_run same = idles (subst (λ (s : Stored D). IsIdle device turn.old s) (sym same) (rest turn.old))

  -- a command was asked
  command_run : (command : Command) (result : Result Reply stored.Refusal) (outcome : RequestOutcome) → outcome ≡ outcome_replied result
      → Answers device turn.old turn.new command turn.now result → IsRunOf device turn.old (counted_with command turn.now outcome) turn.new
  command_run command result outcome is answers =
      let same : counted_as command turn.now result ≡ counted_with command turn.now outcome = sym (counts_alike command turn.now result) ∙ ap (counted_with command turn.now) (sym is) in
      subst (λ (l : List (Command × ℕ)). IsRunOf device turn.old l turn.new) same (one turn.old turn.new command turn.now result answers)

  -- a put was asked
  put_run : (name kind : List ℕ) (n : ℕ) (came body : List ℕ) (result : Result Reply stored.Refusal) (outcome : RequestOutcome) → outcome ≡ outcome_replied result
      → AnswersFrom device turn.old turn.new (coming_put name kind n turn.now) came result → IsBodyOf n came body → IsRunOf device turn.old (counted_with (commands.Put name kind body) turn.now outcome) turn.new
  put_run name kind n came body (Ok reply) outcome is a whole =
      subst (λ (b : List ℕ). IsRunOf device turn.old (counted_with (commands.Put name kind b) turn.now outcome) turn.new) (sym (whole_body n came body a.0 whole))
      (command_run (commands.Put name kind came) (Ok reply) outcome is a.1)
  put_run name kind n came body (Err ReadFault) outcome is a whole =
      subst (λ (l : List (Command × ℕ)). IsRunOf device turn.old l turn.new) (ap (counted_with (commands.Put name kind body) turn.now) (sym is)) (idles (cut turn.old turn.new name kind n turn.now came (inl a)))
  put_run name kind n came body (Err ShortBody) outcome is a whole =
      subst (λ (l : List (Command × ℕ)). IsRunOf device turn.old l turn.new) (ap (counted_with (commands.Put name kind body) turn.now) (sym is)) (idles (cut turn.old turn.new name kind n turn.now came (inr a)))
  put_run name kind n came body (Err refusal) outcome is a whole = command_run (commands.Put name kind body) (Err refusal) outcome is (a.1 body whole)

  recounted : (l k : List (Command × ℕ)) → l ≡ k → IsRunOf device turn.old k turn.new → IsRunOf device turn.old l turn.new
  recounted l k same r = subst (λ (x : List (Command × ℕ)). IsRunOf device turn.old x turn.new) (sym same) r

  -- a group was read
  group_run : (n : ℕ) (more : List ℕ) (left : Option (List ℕ)) (outcome : RequestOutcome) (counted : List (Command × ℕ)) → GroupComesTo turn n more left outcome
      → counted ≡ counted_group (items_asked n more) turn.now outcome → IsRunOf device turn.old counted turn.new
  group_run n more left outcome counted (inl unasked) is = recounted counted [] (is ∙ unasked_counts n more left outcome turn.now unasked.1) (still_run unasked.0)
  group_run n more left outcome counted (inr asked) is =
      let all = ap (λ (found : Option (List Item)). counted_group found turn.now outcome) (asked_items n more asked.items asked.whole asked.are) in
      recounted counted (counted_with (commands.Group asked.items) turn.now outcome) (is ∙ all)
      (command_run (commands.Group asked.items) asked.comes.result outcome asked.comes.outcome_is asked.comes.answers)

  -- the outcomes of a request
  pub request_run : (plan : Result RequestPlan RequestFault) (more : List ℕ) (left : Option (List ℕ)) (outcome : RequestOutcome)
      → RequestGives turn plan more left outcome → (counted : List (Command × ℕ)) → Counts turn.now plan more outcome counted → IsRunOf device turn.old counted turn.new
  request_run (Ok (ShowBody name)) more left outcome gives counted is = recounted counted [] is (idles (reading turn.old turn.new gives.1.answers.reads_only))
  request_run (Ok (ShowDocument doc)) more left outcome gives counted is = recounted counted [] is (still_run gives.2)
  request_run (Ok (Put name kind n waits)) more left outcome gives counted is =
      recounted counted (counted_with (commands.Put name kind is.0) turn.now outcome) is.2 (put_run name kind n more is.0 gives.0.result outcome gives.0.outcome_is gives.0.answers is.1)
  request_run (Ok (Delete name)) more left outcome gives counted is =
      recounted counted (counted_with (commands.Delete name) turn.now outcome) is (command_run (commands.Delete name) gives.1.result outcome gives.1.outcome_is gives.1.answers)
  request_run (Ok Publish) more left outcome gives counted is =
      recounted counted (counted_with commands.Publish turn.now outcome) is (command_run commands.Publish gives.1.result outcome gives.1.outcome_is gives.1.answers)
  request_run (Ok (Group n waits)) more left outcome gives counted is = group_run n more left outcome counted gives is
  request_run (Err reason) more left outcome gives counted is = recounted counted [] is (still_run gives.2)

  -- a put or a group whose reader failed
  pub broken_run : (plan : Result RequestPlan RequestFault) (more : List ℕ) → IsBroken turn plan more → IsRunOf device turn.old [] turn.new
  broken_run (Ok (Put name kind n waits)) more broken = idles (cut turn.old turn.new name kind n turn.now more (inl broken))
  broken_run (Ok (Group n waits)) more broken = still_run broken.1
  broken_run plan more broken = absurd broken

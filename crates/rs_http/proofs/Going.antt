-- The held state after any answer of the source.
use Rattle.std.proofs.Common.{◌≡◌, ◌⊎◌, ◌≤◌, ℕ, List, [], ◌∷◌, length, Option, Some, None, Result, Ok, Err, Bool, true, false, if◌then◌else◌, refl, ap, sym, ◌∙◌, subst, inl, inr, arith}
use Rattle.std.proofs.lemmas.List.Elements.{All-nil, All-cons}
use Rattle.rs_disk.specs.Medium.{DiskState, IsImage, Medium}
use Rattle.rs_model.specs.State.{Source}
use Rattle.rs_model.specs.Step.{state_after, refusal_of}
use Rattle.rs_model.specs.declared.command.Command.{Command}
use Rattle.rs_model.specs.declared.command.Command.TheVariants as commands
use Rattle.rs_model.specs.declared.command.Reply.{Reply}
use Rattle.rs_model.specs.declared.command.Refusal as model
use Rattle.rs_image.specs.StateOfImage.{state_in}
use Rattle.rs_store.specs.Answered.{Answers}
use Rattle.rs_store.specs.OnlyReads.{OnlyReads}
use Rattle.rs_store.specs.Received.{IsBodyOf, IsLeft, AnswersFrom, coming_put}
use Rattle.rs_store.specs.Refusals.{decided, or_spent, is_spent}
use Rattle.rs_store.specs.Source.{Stored, Holds, state_of}
use Rattle.rs_io.specs.Watch.{watched, Ends}
use Rattle.rs_store.specs.declared.refusal.Refusal as stored
use Rattle.rs_store.specs.declared.refusal.Refusal.TheVariants.{Closed, ReadFault, ShortBody, Device}
use Rattle.rs_http.specs.declared.status.StatusCode.{StatusCode}
use Rattle.rs_io.specs.declared.fault.StreamFault.{StreamFault}
use Rattle.rs_io.specs.declared.fault.StreamFault.TheVariants.{Read, Write}
use Rattle.rs_http.specs.declared.request.RequestPlan.{RequestPlan}
use Rattle.rs_http.specs.declared.request.RequestPlan.TheVariants.{ShowBody, ShowDocument, Put, Delete, Publish, Group}
use Rattle.rs_http.specs.declared.request.RequestFault.{RequestFault}
use Rattle.rs_http.specs.declared.request.Request.{Request}
use Rattle.rs_http.specs.Outcomes.{GroupComesTo, RequestGives}
use Rattle.rs_store.specs.Advancing.{GoesOnBy, GoesOnOnce}
use Rattle.rs_http.proofs.FromBelow.{begins_one, may_fit}
use Rattle.rs_http.specs.Responses.{RequestOutcome}
use Rattle.rs_http.specs.Turn.{Turn}
use Rattle.rs_http.specs.Serving.{IsBroken, IsUnsaid, IsCutOff, RequestEnds}

-- the model accepts a command that has no decided refusal
unless_refused : (refusal : Option model.Refusal) (spent closed : Bool) → (if closed then Some Closed else or_spent refusal spent) ≡ None → refusal ≡ None
unless_refused None spent closed e = refl
unless_refused (Some r) spent false e = absurd cc
unless_refused (Some r) spent true e = absurd cc

-- an accepted command has no decided refusal
undecided : (d : Option stored.Refusal) (result : Result Reply stored.Refusal) (reply : Reply) → result ≡ Ok reply
    → ((r : stored.Refusal) → d ≡ Some r → result ≡ Err r) → d ≡ None
undecided None result reply is f = refl
undecided (Some r) result reply is f = let no : result ≡ Err r = f r refl in absurd cc

module _ {D : Type 0} {device : D → DiskState} (turn : Turn device) where
  abbrev Came : Command × ℕ → Type 0
  Came command = command.1 ≡ turn.now

  abbrev Accepted : Command × ℕ → Type 0
  Accepted command = refusal_of (state_of device turn.old) command.0 command.1 ≡ None

  -- no command was done
  none_done : turn.new.is_closed ≡ turn.old.is_closed → state_of device turn.new ≡ state_of device turn.old
      → ((s : Source) → Holds device turn.old s → turn.new.is_closed ≡ false → Holds device turn.new s) → GoesOnOnce device turn.old turn.now turn.new
  none_done closed told holds = record {
    commands = [];
    few = omega arith;
    came = All-nil Came;
    accepted = All-nil Accepted;
    goes_on = record { opened = λ h. sym closed ∙ h; tells = λ _. told; holds = holds };
    kept = λ _. closed;
  }

  -- one command was done
  one_done : (command : Command) → decided turn.old (state_of device turn.old) command turn.now ≡ None → GoesOnBy device turn.old turn.new ((command, turn.now) ∷ []) → GoesOnOnce device turn.old turn.now turn.new
  one_done command free by = record {
    commands = (command, turn.now) ∷ [];
    few = omega arith;
    came = All-cons Came (command, turn.now) [] refl (All-nil Came);
    accepted = All-cons Accepted (command, turn.now) []
        (unless_refused (refusal_of (state_of device turn.old) command turn.now) (is_spent turn.old) turn.old.is_closed free) (All-nil Accepted);
    goes_on = by;
    kept = λ e. absurd cc;
  }

  -- the source is unchanged
  same_goes : turn.new ≡ turn.old → GoesOnOnce device turn.old turn.now turn.new
  same_goes same = none_done (ap (λ (x : Stored D). x.is_closed) same) (ap (state_of device) same)
      (λ s held free. subst (λ (x : Stored D). Holds device x s) (sym same) held)

  -- a put was not done
  left_goes : IsLeft device turn.old turn.new → GoesOnOnce device turn.old turn.now turn.new
  left_goes left = none_done left.is_closed left.unchanged.state (λ s held free. (left.holds s held).0)

  -- the source was only read
  read_goes : OnlyReads device turn.old turn.new → (device turn.new.disk).now ≡ (device turn.old.disk).now → GoesOnOnce device turn.old turn.now turn.new
  read_goes a same =
      none_done a.is_closed
      (ap (λ (held : Medium). state_in held.seen turn.new.contents) same ∙ ap (state_in (device turn.old.disk).now.seen) a.contents)
      (λ s held free. record {
        is_open = free;
        ready = rw (a.slots, same) held.ready;
        tells = λ image is. rw (a.slots, a.contents) (held.tells image (subst (λ (m : Medium). IsImage m image) same is));
      })

  module _ (command : Command) where
    -- a command was refused, and the device did not fail
    refused_goes : (r : stored.Refusal) → (r ≡ Device → ⊥) → Answers device turn.old turn.new command turn.now (Err r) → ((s : Source) → Holds device turn.old s → Holds device turn.new s)
        → GoesOnOnce device turn.old turn.now turn.new
    refused_goes r other a holds =
        none_done (a.stays_open (λ (is : _). let same : r ≡ Device = cc in other same)) (a.unchanged r refl other).state (λ s held free. holds s held)

    -- a command was asked
    run_goes : (result : Result Reply stored.Refusal) → Answers device turn.old turn.new command turn.now result → GoesOnOnce device turn.old turn.now turn.new
    run_goes (Ok reply) a = one_done command (undecided (decided turn.old (state_of device turn.old) command turn.now) (Ok reply) reply refl a.decides) (record {
      opened = λ h. sym (a.stays_open (λ e. absurd cc)) ∙ h;
      tells = λ _. sym (ap (state_after (state_of device turn.old)) a.accepted);
      holds = λ s held free.
          let led = a.leads s held in
          subst (Holds device turn.new) (sym (ap (state_after s) led.1)) led.2;
    })
    run_goes (Err Device) a =
        let shut : turn.new.is_closed ≡ true = a.closes refl in
        one_done command (a.refused Device refl).0 (record { opened = λ h. absurd cc; tells = λ h. absurd cc; holds = λ s held h. absurd cc })
    run_goes (Err ReadFault) a = absurd (a.refused ReadFault refl)
    run_goes (Err ShortBody) a = absurd (a.refused ShortBody refl)
    run_goes (Err refusal) a = refused_goes refusal (λ e. absurd cc) a (λ s held. (a.leads s held).0)

  module _ (name kind : List ℕ) (n : ℕ) (came : List ℕ) where
    -- a put of some body of that length was refused
    put_refused : (r : stored.Refusal) → length came ≤ n
        → ((body : List ℕ) → IsBodyOf n came body → Answers device turn.old turn.new (commands.Put name kind body) turn.now (Err r)) → GoesOnOnce device turn.old turn.now turn.new
    put_refused r fits a =
        let some = begins_one n came fits in
        run_goes (commands.Put name kind some.0) (Err r) (a some.0 some.1)

    -- a put was asked
    put_goes : (result : Result Reply stored.Refusal) → AnswersFrom device turn.old turn.new (coming_put name kind n turn.now) came result → GoesOnOnce device turn.old turn.now turn.new
    put_goes (Ok reply) a = run_goes (commands.Put name kind came) (Ok reply) a.1
    put_goes (Err ReadFault) a = left_goes a.left
    put_goes (Err ShortBody) a = left_goes a.left
    put_goes (Err refusal) a = put_refused refusal (may_fit n came refusal a.0) a.1

  -- a group was read
  group_goes : (n : ℕ) (more : List ℕ) (rest : Option (List ℕ)) (outcome : RequestOutcome) → GroupComesTo turn n more rest outcome → GoesOnOnce device turn.old turn.now turn.new
  group_goes n more rest outcome (inl unasked) = same_goes unasked.0
  group_goes n more rest outcome (inr asked) = run_goes (commands.Group asked.items) asked.comes.result asked.comes.answers

  -- the outcomes of a request
  gives_goes : (plan : Result RequestPlan RequestFault) (more : List ℕ) (rest : Option (List ℕ)) (outcome : RequestOutcome)
      → RequestGives turn plan more rest outcome → GoesOnOnce device turn.old turn.now turn.new
  gives_goes (Ok (ShowBody name)) more rest outcome gives = read_goes gives.1.answers.reads_only gives.1.answers.runs.now
  gives_goes (Ok (ShowDocument doc)) more rest outcome gives = same_goes gives.2
  gives_goes (Ok (Put name kind n waits)) more rest outcome gives = put_goes name kind n more gives.0.result gives.0.answers
  gives_goes (Ok (Delete name)) more rest outcome gives = run_goes (commands.Delete name) gives.1.result gives.1.answers
  gives_goes (Ok Publish) more rest outcome gives = run_goes commands.Publish gives.1.result gives.1.answers
  gives_goes (Ok (Group n waits)) more rest outcome gives = group_goes n more rest outcome gives
  gives_goes (Err reason) more rest outcome gives = same_goes gives.2

  -- a put or a group whose reader failed
  broken_goes : (plan : Result RequestPlan RequestFault) (more : List ℕ) → IsBroken turn plan more → GoesOnOnce device turn.old turn.now turn.new
  broken_goes (Ok (Put name kind n waits)) more broken = left_goes broken.left
  broken_goes (Ok (Group n waits)) more broken = same_goes broken.1
  broken_goes plan more broken = absurd broken

  -- a request whose response was not written
  stands_goes : (request : Request) (more : List ℕ) (ends : Ends) → IsUnsaid turn request more ends ⊎ IsCutOff turn request more ends → GoesOnOnce device turn.old turn.now turn.new
  stands_goes request more ends (inl unsaid) = same_goes unsaid.2
  stands_goes request more ends (inr cut) = gives_goes request.plan more (watched ends.rest) cut.outcome cut.gives

  -- every outcome of a request
  pub request_goes : (request : Request) (ends : Ends) (result : Result StatusCode StreamFault) → RequestEnds turn request ends result → GoesOnOnce device turn.old turn.now turn.new
  request_goes request ends (Ok status) e = gives_goes request.plan e.more (watched ends.rest) e.answered.2.outcome e.answered.2.gives
  request_goes request ends (Err Read) e = broken_goes request.plan e.more (e.broken refl).1
  request_goes request ends (Err Write) e = stands_goes request e.more ends (e.stands refl)

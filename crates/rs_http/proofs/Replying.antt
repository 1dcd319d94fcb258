-- The command that the source gets for a request, and the reply that the response reports.
use Rattle.std.proofs.Common.{◌≡◌, ◌⊎◌, inl, inr, ℕ, Bool, true, false, List, [], ◌++◌, Option, Some, None, Result, Ok, Err, Vec, Global, refl, sym, ap, ◌∙◌, subst, cond, append-nil, append_assoc}
use Rattle.std.proofs.KnownBytes.{Consumes-trans, Appends-nil}
use Rattle.std.proofs.Math.Seq.{take-length}
use Rattle.std.specs.Io.KnownBytes.{Consumes, Appends}
use Rattle.rs_disk.specs.Medium.{DiskState}
use Rattle.rs_io.specs.Watch.{watched, End, Ends}
use Rattle.rs_model.specs.State.{Source}
use Rattle.rs_model.specs.declared.command.Command.{Command}
use Rattle.rs_model.specs.declared.command.Command.TheVariants as commands
use Rattle.rs_model.specs.declared.command.Reply.{Reply}
use Rattle.rs_store.specs.Laws.{RestIsIdle}
use Rattle.rs_store.specs.Received.{coming_put}
use Rattle.rs_store.specs.Runs.{IsIdle}
use Rattle.rs_store.specs.Source.{Stored, state_of}
use Rattle.rs_store.specs.declared.refusal.Refusal as stored
use Rattle.rs_store.specs.declared.refusal.Refusal.TheVariants.{Closed, ReadFault, ShortBody}
use Rattle.rs_recovery.specs.Replies.{AnsweredCommand}
use Rattle.rs_recovery.specs.Turns.{IsOneTurn, CommandsAreTurns, IsPutTurn, PutsComeInTurn, ReadingsIdle}
use Rattle.rs_http.proofs.FromBelow.{begins_one}
use Rattle.rs_http.specs.declared.status.StatusCode.{StatusCode}
use Rattle.rs_io.specs.declared.fault.StreamFault.{StreamFault}
use Rattle.rs_io.specs.declared.fault.StreamFault.TheVariants.{Read, Write}
use Rattle.rs_http.specs.declared.request.RequestPlan.{RequestPlan}
use Rattle.rs_http.specs.declared.request.RequestPlan.TheVariants.{ShowBody, ShowDocument, Put, Delete, Publish, Group}
use Rattle.rs_http.specs.declared.request.RequestFault.{RequestFault}
use Rattle.rs_http.specs.declared.head.HeadRead.{HeadRead}
use Rattle.rs_http.specs.declared.request.Request.{Request}
use Rattle.rs_http.specs.declared.response.Framing.{Framing}
use Rattle.rs_http.specs.Outcomes.{outcome_replied, IsShownAs, RunComesTo, UnaskedGroup, GroupComesTo, document_or_none, RequestGives}
use Rattle.rs_http.specs.Requests.{Asks}
use Rattle.rs_http.specs.Responses.{RequestOutcome, refused, response_text, go_on}
use Rattle.rs_http.specs.Serving.{preface_of, IsBroken, IsUnsaid, IsCutOff, RequestEnds}
use Rattle.rs_http.specs.Told.{told_by, IsAsked, AsksCommand, LeavesCut, IsRequestOutcome, IsPlanOutcome, Gets, TellsRequest, RequestsGetOne, BrokenBodiesIdle}
use Rattle.rs_http.specs.Turn.{Turn}
use Rattle.rs_http.proofs.Seeing.{is_asked}

told_found : (found : Option (List ℕ)) → told_by (document_or_none found) ≡ []
told_found None = refl
told_found (Some bytes) = refl

told_either : (b : Bool) (one other : RequestOutcome) → told_by one ≡ [] → told_by other ≡ [] → told_by (cond b one other) ≡ []
told_either true one other h k = h
told_either false one other h k = k

told_body : (s : Source) (name : List ℕ) (result : Result (Vec ℕ Global) stored.Refusal) (outcome : RequestOutcome) → IsShownAs s name result outcome → told_by outcome ≡ []
told_body s name (Ok bytes) outcome is = ap told_by is.2
told_body s name (Err refusal) outcome is = ap told_by is

told_unasked : (n : ℕ) (came : List ℕ) (rest : Option (List ℕ)) (outcome : RequestOutcome) → UnaskedGroup n came rest outcome → told_by outcome ≡ []
told_unasked n came rest outcome (inl short) = ap told_by short.2
told_unasked n came rest outcome (inr (inl faulty)) = ap told_by faulty.3
told_unasked n came rest outcome (inr (inr (inl body))) = ap told_by body.1
told_unasked n came rest outcome (inr (inr (inr items))) = ap told_by items.1

module _ {D : Type 0} (device : D → DiskState) (rest : RestIsIdle device) (reading : ReadingsIdle device) (one : CommandsAreTurns device) (coming : PutsComeInTurn device)
    (turn : Turn device) where
  -- the source got no command
  idle_gets : (plan : Result RequestPlan RequestFault) (more : List ℕ) (outcome : RequestOutcome) → told_by outcome ≡ [] → LeavesCut turn plan more
      → IsIdle device turn.old turn.new → Gets turn plan more outcome
  idle_gets plan more outcome nothing left idle = record { got = None; is = nothing; cut = left; in_turn = idle }

  still : turn.new ≡ turn.old → IsIdle device turn.old turn.new
  still same = subst (λ (s : Stored D). IsIdle device turn.old s) (sym same) (rest turn.old)

  -- the source got the command that a plan asks for
  command_gets : (plan : Result RequestPlan RequestFault) (more : List ℕ) (command : Command) (result : Result Reply stored.Refusal) (outcome : RequestOutcome)
      → outcome ≡ outcome_replied result → AsksCommand plan more result command → LeavesCut turn plan more → IsOneTurn device turn.old command turn.now result turn.new
      → Gets turn plan more outcome
  command_gets plan more command result outcome is asks left in_turn = record {
    got = Some (record { asked = (command, turn.now); ack = record { reply = result; at_call = (device turn.new.disk).calls } });
    is = (asks, refl, is);
    cut = left;
    in_turn = in_turn;
  }

  run_gets : (plan : Result RequestPlan RequestFault) (more : List ℕ) (command : Command) (outcome : RequestOutcome) (r : RunComesTo turn command outcome)
      → AsksCommand plan more r.result command → LeavesCut turn plan more → Gets turn plan more outcome
  run_gets plan more command outcome r asks left =
      command_gets plan more command r.result outcome r.outcome_is asks left (one turn.old turn.new command turn.now r.result r.answers)

  -- a put, by its answer
  put_gets : (name kind : List ℕ) (n : ℕ) (waits : Bool) (came : List ℕ) (result : Result Reply stored.Refusal) (outcome : RequestOutcome)
      → outcome ≡ outcome_replied result → LeavesCut turn (Ok (Put name kind n waits)) came → IsPutTurn device turn.old (coming_put name kind n turn.now) came result turn.new
      → Gets turn (Ok (Put name kind n waits)) came outcome
  put_gets name kind n waits came (Ok reply) outcome is left turned =
      command_gets (Ok (Put name kind n waits)) came (commands.Put name kind came) (Ok reply) outcome is
      (came, record { len = turned.0; front = take-length came }, refl, refl) left turned.1
  put_gets name kind n waits came (Err ReadFault) outcome is left turned = idle_gets (Ok (Put name kind n waits)) came outcome (ap told_by is) left turned
  put_gets name kind n waits came (Err ShortBody) outcome is left turned = idle_gets (Ok (Put name kind n waits)) came outcome (ap told_by is) left turned
  put_gets name kind n waits came (Err refusal) outcome is left turned =
      let body = begins_one n came turned.0 in
      command_gets (Ok (Put name kind n waits)) came (commands.Put name kind body.0) (Err refusal) outcome is (body.0, body.1, tt, refl) left (turned.1 body.0 body.1)

  group_gets : (n : ℕ) (waits : Bool) (more : List ℕ) (left : Option (List ℕ)) (outcome : RequestOutcome) → GroupComesTo turn n more left outcome
      → Gets turn (Ok (Group n waits)) more outcome
  group_gets n waits more left outcome (inl unasked) = idle_gets (Ok (Group n waits)) more outcome (told_unasked n more left outcome unasked.1) tt (still unasked.0)
  group_gets n waits more left outcome (inr asked) =
      run_gets (Ok (Group n waits)) more (commands.Group asked.items) outcome asked.comes (asked.whole, asked.items, asked.are, refl) tt

  -- the outcomes of a request
  pub request_gets : (plan : Result RequestPlan RequestFault) (more : List ℕ) (left : Option (List ℕ)) (outcome : RequestOutcome)
      → RequestGives turn plan more left outcome → Gets turn plan more outcome
  request_gets (Ok (ShowBody name)) more left outcome gives =
      idle_gets (Ok (ShowBody name)) more outcome (told_body (state_of device turn.old) name gives.1.result outcome gives.1.outcome_is) tt
      (reading turn.old turn.new gives.1.answers.reads_only)
  request_gets (Ok (ShowDocument doc)) more left outcome gives =
      idle_gets (Ok (ShowDocument doc)) more outcome (ap told_by gives.1 ∙ told_either turn.old.is_closed (refused Closed) (document_or_none _) refl (told_found _)) tt (still gives.2)
  request_gets (Ok (Put name kind n waits)) more left outcome gives =
      let put = gives.0 in
      let comes = coming turn.old turn.new name kind n turn.now more put.result put.answers in
      put_gets name kind n waits more put.result outcome put.outcome_is comes.cut comes.turn
  request_gets (Ok (Delete name)) more left outcome gives = run_gets (Ok (Delete name)) more (commands.Delete name) outcome gives.1 refl tt
  request_gets (Ok Publish) more left outcome gives = run_gets (Ok Publish) more commands.Publish outcome gives.1 refl tt
  request_gets (Ok (Group n waits)) more left outcome gives = group_gets n waits more left outcome gives
  request_gets (Err reason) more left outcome gives = idle_gets (Err reason) more outcome (ap told_by gives.1) tt (still gives.2)

  -- a put or a group whose reader failed
  pub broken_idles : (plan : Result RequestPlan RequestFault) (more : List ℕ) → IsBroken turn plan more → IsIdle device turn.old turn.new
  broken_idles (Ok (Put name kind n waits)) more broken = (coming turn.old turn.new name kind n turn.now more (Err ReadFault) broken).turn
  broken_idles (Ok (Group n waits)) more broken = still broken.1
  broken_idles plan more broken = absurd broken

preface_is : (plan : Result RequestPlan RequestFault) → (preface_of plan ≡ []) ⊎ (preface_of plan ≡ go_on)
preface_is (Ok (Put name kind n true)) = inr refl
preface_is (Ok (Group n true)) = inr refl
preface_is plan = inl refl

-- the bytes that were written for them
module _ {D : Type 0} {device : D → DiskState} (rest : RestIsIdle device) (gets : RequestsGetOne device) (broken : BrokenBodiesIdle device) (turn : Turn device) where
  -- the source is unchanged
  quiet : turn.new ≡ turn.old → IsIdle device turn.old turn.new
  quiet same = subst (λ (s : Stored D). IsIdle device turn.old s) (sym same) (rest turn.old)

  -- these bytes came
  module _ (ends : Ends) (input : List ℕ) (came : Consumes (watched ends.left) (watched ends.rest) input) where
    -- no response
    tells_none : (first part left_out : List ℕ) → (first ≡ []) ⊎ (first ≡ go_on) → IsIdle device turn.old turn.new → part ++ left_out ≡ first
        → Appends (watched ends.before) (watched ends.after) part → TellsRequest turn ends
    tells_none first part left_out is idle bytes took = record {
      input = input;
      came = came;
      got = None;
      sent = None;
      is = refl;
      in_turn = idle;
      asked = tt;
      first = first;
      first_is = is;
      text = [];
      text_is = refl;
      part = part;
      left_out = left_out;
      bytes_are = bytes ∙ sym (append-nil first);
      took = took;
    }

    -- the command of a plan is the one that the bytes ask for
    bytes_ask : (head more : List ℕ) (read : HeadRead) (request : Request) (outcome : RequestOutcome) → input ≡ head ++ more → Asks head read (Some request)
        → LeavesCut turn request.plan more → (got : Option AnsweredCommand) → IsPlanOutcome request.plan more turn.now got outcome → IsRequestOutcome turn input got (Some outcome)
    bytes_ask head more read request outcome bytes asks left None is = is
    bytes_ask head more read request outcome bytes asks left (Some got) is = (
      record { head = head; body = more; read = read; request = request; bytes_are = bytes; asks = asks; command_is = is.0; cut = left },
      is.1,
      ap (λ (o : RequestOutcome). Some o) is.2,
    )

    -- one response
    tells_one : (head more : List ℕ) (read : HeadRead) (request : Request) (rest : Option (List ℕ)) (outcome : RequestOutcome) (framing : Framing) (part left_out : List ℕ)
        → input ≡ head ++ more → Asks head read (Some request) → RequestGives turn request.plan more rest outcome → IsAsked input outcome
        → part ++ left_out ≡ preface_of request.plan ++ response_text framing outcome
        → Appends (watched ends.before) (watched ends.after) part → TellsRequest turn ends
    tells_one head more read request rest outcome framing part left_out input_is asks gives asked bytes took =
        let one = gets turn request.plan more rest outcome gives in
        record {
          input = input;
          came = came;
          got = one.got;
          sent = Some outcome;
          is = bytes_ask head more read request outcome input_is asks one.cut one.got one.is;
          in_turn = one.in_turn;
          asked = asked;
          first = preface_of request.plan;
          first_is = preface_is request.plan;
          text = response_text framing outcome;
          text_is = (framing, refl);
          part = part;
          left_out = left_out;
          bytes_are = bytes;
          took = took;
        }

  -- no byte was written
  pub silent_tells : (left rest end : End) (input : List ℕ) → Consumes (watched left) (watched rest) input → turn.new ≡ turn.old
      → TellsRequest turn (record { left = left; rest = rest; before = end; after = end })
  silent_tells left rest end input came same =
      tells_none (record { left = left; rest = rest; before = end; after = end }) input came [] [] [] (inl refl) (quiet same) refl (Appends-nil (watched end))

  -- a request was read from a head
  module _ (ends : Ends) (behind : End) (request : Request) (bytes : List ℕ) (read : HeadRead) (came : Consumes (watched ends.left) (watched behind) bytes)
      (asks : Asks bytes read (Some request)) where
    abbrev later : Ends
    later = record { left = behind; rest = ends.rest; before = ends.before; after = ends.after }

    all_came : (more : List ℕ) → Consumes (watched behind) (watched ends.rest) more → Consumes (watched ends.left) (watched ends.rest) (bytes ++ more)
    all_came more then = Consumes-trans (watched ends.left) (watched behind) (watched ends.rest) bytes more came then

    stands_tells : (more : List ℕ) → Consumes (watched behind) (watched ends.rest) more → IsUnsaid turn request more later ⊎ IsCutOff turn request more later
        → TellsRequest turn ends
    stands_tells more then (inl unsaid) =
        let took = unsaid.3 in
        tells_none ends (bytes ++ more) (all_came more then) go_on took.part took.left_out (inr refl) (quiet unsaid.2) took.bytes_are took.took
    stands_tells more then (inr off) =
        let took = off.took in
        let framing : Framing = record { date = off.date; is_head = request.is_head } in
        let first = preface_of request.plan in
        tells_one ends (bytes ++ more) (all_came more then) bytes more read request (watched ends.rest) off.outcome framing (first ++ took.part) took.left_out refl asks off.gives
        (is_asked turn bytes read request asks more (watched ends.rest) off.outcome off.gives)
        (append_assoc first took.part took.left_out ∙ ap (λ l. first ++ l) took.bytes_are) took.took

    -- every outcome of a request
    pub ends_tell : (result : Result StatusCode StreamFault) → RequestEnds turn request later result → TellsRequest turn ends
    ends_tell (Ok status) e =
        let is = e.answered.2 in
        tells_one ends (bytes ++ e.more) (all_came e.more e.came) bytes e.more read request (watched ends.rest) is.outcome (record { date = is.date; is_head = request.is_head }) e.answered.0 []
        refl asks is.gives (is_asked turn bytes read request asks e.more (watched ends.rest) is.outcome is.gives) (append-nil e.answered.0 ∙ is.written) e.answered.1
    ends_tell (Err Read) e =
        let is = e.broken refl in
        let first = preface_of request.plan in
        tells_none ends (bytes ++ e.more) (all_came e.more e.came) first first [] (preface_is request.plan) (broken turn request.plan e.more is.1) (append-nil first) is.0
    ends_tell (Err Write) e = stands_tells e.more e.came (e.stands refl)

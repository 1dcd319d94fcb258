-- How the answer to a plan and to a request ends.
use Rattle.std.proofs.Common.{◌≡◌, ◌+◌, ◌≤◌, ◌/◌, ℕ, List, [], ◌++◌, length, Option, Result, Ok, Err, refl, ap, sym, ◌∙◌, subst, inl, inr, ◌⊎◌, arith, append-nil}
use Rattle.std.specs.Prelude.{MatchResult, OnOk, OnErr, IfErr, IsErrOf, Some, Bool}
use Rattle.std.specs.Result.{IsErr, IsErrAnd}
use Rattle.std.specs.Io.KnownBytes.{Consumes, Appends, Keeps, IsAtEnd}
use Rattle.std.proofs.lemmas.List.{length-append}
use Rattle.std.proofs.KnownBytes.{Consumes-nil, Consumes-trans, Appends-trans, Appends-kept}
use Rattle.httpdate.specs.Date.{unix_secs}
use Rattle.httpdate.specs.declared.date.HttpDate.{HttpDate}
use Rattle.rs_disk.specs.Medium.{DiskState}
use Rattle.rs_io.specs.declared.watch.Watched.{Watched}
use Rattle.rs_io.specs.Watch.{watched, calls, seen_by, failures, EndFailed, FlushFailed, Wrote, FailedWithin, TellsEnd, End, Ends, ends_of}
use Rattle.rs_http.specs.declared.status.StatusCode.{StatusCode}
use Rattle.rs_http.proofs.FromBelow.{later_fault, later_put_fault, no_reads, reads_behind}
use Rattle.rs_model.specs.declared.command.Reply.{Reply}
use Rattle.rs_store.specs.Received.{AnswersFrom, ReadsFor, coming_put, empty_reads_of}
use Rattle.rs_store.specs.declared.refusal.Refusal.{Refusal}
use Rattle.rs_store.specs.declared.refusal.Refusal.TheVariants.{ReadFault, ShortBody}
use Rattle.rs_io.specs.declared.fault.StreamFault.{StreamFault}
use Rattle.rs_io.specs.declared.fault.StreamFault.TheVariants.{Read, Write}
use Rattle.rs_http.specs.declared.head.HeadRead.{HeadRead}
use Rattle.rs_http.specs.declared.head.HeadRead.TheVariants.{Whole, TooLong, Ended}
use Rattle.rs_http.specs.declared.request.RequestPlan.{RequestPlan}
use Rattle.rs_http.specs.declared.request.RequestPlan.TheVariants.{Put, Group}
use Rattle.rs_http.specs.declared.request.RequestFault.{RequestFault}
use Rattle.rs_http.specs.declared.request.Request.{Request}
use Rattle.rs_http.specs.declared.response.Framing.{Framing}
use Rattle.rs_http.specs.declared.serve.Served.TheVariants.{Answered}
use Rattle.rs_http.specs.Turn.{Turn}
use Rattle.rs_http.specs.Head.{HeadIs, head_reads}
use Rattle.rs_http.specs.Requests.{Asks}
use Rattle.rs_http.specs.Responses.{RequestOutcome, response_text, go_on}
use Rattle.rs_http.specs.Outcomes.{outcome_replied, RequestGives, Sends, Responds}
use Rattle.rs_http.specs.Laws.{RequestsRecover, BrokenBodiesRecover, RequestsMakeWalks, BrokenBodiesMakeNoEvent}
use Rattle.rs_http.specs.Serving.{bytes_of, PlanEnds, RequestEnds, TakesPart, preface_of, empty_reads_for, IsUnsaid, IsCutOff, Stands, Reads, Serves, Breaks, Halts}
use Rattle.rs_http.proofs.Asking.{answered}

-- a response that was sent is not answered as unread
pub unread : (result : Result StatusCode StreamFault) → IfErr result (λ fault. fault ≡ Write) → IsErrOf result Read → ⊥
unread (Ok status) is e = absurd cc
unread (Err fault) is e = absurd cc

module _ {W : Type 0} (contents : W → Option (List ℕ)) (before after : Watched W) where
  -- a response that was sent, as its bytes show it
  seen_sends : (framing : Framing) (outcome : RequestOutcome) (result : Result StatusCode StreamFault) → Sends contents before after framing outcome result
      → Sends bytes_of (seen_by contents before) (seen_by contents after) framing outcome result
  seen_sends framing outcome (Ok status) s = s
  seen_sends framing outcome (Err fault) s =
      let w = s.1 in (s.0, record { failed = w.failed; part = w.part; left_out = w.left_out; bytes_are = w.bytes_are; took = w.took }, s.2)

  -- a put that failed took a beginning of the text
  pub took_part : (text : List ℕ) → FailedWithin contents before after text → TakesPart (seen_by contents before) (seen_by contents after) [] text
  took_part text w = record { part = w.part; left_out = w.left_out; bytes_are = w.bytes_are; took = w.took; failed = inl w.failed }

module _ {D R W : Type 0} {device : D → DiskState} {turn : Turn device} {plan : Result RequestPlan RequestFault} {framing : Framing} {contents : W → Option (List ℕ)}
    {before after : Watched W} {comes : RequestOutcome → Type 0} {result : Result StatusCode StreamFault}
    (asked : Result RequestPlan RequestFault) (remaining : R → Option (List ℕ)) where
  -- an answer that was sent ends a plan that read these bytes
  pub sent_ends : (reader left : Watched R) (more : List ℕ) → plan ≡ asked → Consumes (remaining (watched reader)) (remaining (watched left)) more → failures left ≡ failures reader
      → ReadsFor (empty_reads_for asked) reader left more → Responds contents before after framing comes result
      → ((outcome : RequestOutcome) → comes outcome → RequestGives turn asked more (remaining (watched left)) outcome)
      → PlanEnds turn plan framing (ends_of remaining reader left contents before after) result
  sent_ends reader left more same came sound few r gives = record {
    more = more;
    came = came;
    reads = subst (λ p. ReadsFor (empty_reads_for p) (seen_by remaining reader) (seen_by remaining left) more) (sym same) (record { reads = few.reads; once = few.once });
    reader = record { failed = λ is. absurd (unread result r.sends.2 is); sound = λ _. sound };
    broken = λ is. absurd (unread result r.sends.2 is);
    answered = λ _. record {
      outcome = r.outcome;
      comes_of_it = subst (λ p. RequestGives turn p more (remaining (watched left)) r.outcome) (sym same) (gives r.outcome r.comes_of_it);
      sends = seen_sends contents before after framing r.outcome result r.sends;
    };
  }

  -- or a plan that read no byte
  pub sent_bare : (reader : Watched R) → plan ≡ asked → Responds contents before after framing comes result
      → ((outcome : RequestOutcome) → comes outcome → RequestGives turn asked [] (remaining (watched reader)) outcome)
      → PlanEnds turn plan framing (ends_of remaining reader reader contents before after) result
  sent_bare reader same r gives = sent_ends reader reader [] same (Consumes-nil (remaining (watched reader))) refl (no_reads _ reader) r gives

-- at most one read gave no byte
few_empty : (answer : Result Reply Refusal) → empty_reads_of answer ≤ 1
few_empty (Ok reply) = omega arith
few_empty (Err ReadFault) = omega arith
few_empty (Err ShortBody) = omega arith
few_empty (Err refusal) = omega arith

few_for : (plan : Result RequestPlan RequestFault) → empty_reads_for plan ≤ 1
few_for (Ok (Put name kind n waits)) = omega arith
few_for (Ok (Group n waits)) = omega arith
few_for plan = omega arith

one_read_more : {R : Type 0} (n : ℕ) (reader left : Watched R) (came : List ℕ) → n ≤ 1 → ReadsFor n reader left came → ReadsFor 1 reader left came
one_read_more n reader left came few reads = record { reads = omega (arith, few, reads.reads); once = reads.once }

-- the source's answer to a put is sent and ends its plan, unless the reader failed
pub put_ends : {D R W : Type 0} {device : D → DiskState} {turn : Turn device} {framing : Framing} {result : Result StatusCode StreamFault} {name kind : List ℕ} {n : ℕ} {waits : Bool}
    (remaining : R → Option (List ℕ)) (reader left : Watched R) (contents : W → Option (List ℕ)) (before after : Watched W) (answer : Result Reply Refusal)
    → (came : List ℕ) × Consumes (remaining (watched reader)) (remaining (watched left)) came × AnswersFrom device turn.old turn.new (coming_put name kind n turn.now) came answer
    × ReadsFor (empty_reads_of answer) reader left came
    → (IsErrOf answer ReadFault → ⊥) → TellsEnd (IsErrOf answer ReadFault) reader left → (IsErrOf answer ShortBody → IsAtEnd (remaining (watched left)))
    → Sends contents before after framing (outcome_replied answer) result
    → PlanEnds turn (Ok (Put name kind n waits)) framing (ends_of remaining reader left contents before after) result
put_ends {turn = turn} {name = name} {kind = kind} {n = n} {waits = waits} remaining reader left contents before after answer came unbroken tells ended sends =
    sent_ends (Ok (Put name kind n waits)) remaining reader left came.0 refl came.1 (tells.sound unbroken) (one_read_more (empty_reads_of answer) reader left came.0 (few_empty answer) came.3)
    (answered {contents = contents} {before = before} {after = after} {comes = λ outcome. RequestGives turn (Ok (Put name kind n waits)) came.0 (remaining (watched left)) outcome}
    (outcome_replied answer) (record { result = answer; answers = came.2; unbroken = unbroken; outcome_is = refl }, ended) sends) (λ o h. h)

-- the source's answer to a put ends its plan, whether the reader failed or not
pub put_answered : {D R W : Type 0} {device : D → DiskState} {turn : Turn device} {framing : Framing} {result : Result StatusCode StreamFault} {name kind : List ℕ} {n : ℕ} {waits : Bool}
    (remaining : R → Option (List ℕ)) (reader left : Watched R) (contents : W → Option (List ℕ)) (before after : Watched W) (answer : Result Reply Refusal)
    → (came : List ℕ) × Consumes (remaining (watched reader)) (remaining (watched left)) came × AnswersFrom device turn.old turn.new (coming_put name kind n turn.now) came answer
    × ReadsFor (empty_reads_of answer) reader left came
    → TellsEnd (IsErrOf answer ReadFault) reader left → (IsErrOf answer ShortBody → IsAtEnd (remaining (watched left)))
    → ((IsErrOf answer ReadFault → ⊥) → Sends contents before after framing (outcome_replied answer) result)
    → (IsErrOf answer ReadFault → result ≡ Err Read) → (IsErrOf result Read → after ≡ before)
    → PlanEnds turn (Ok (Put name kind n waits)) framing (ends_of remaining reader left contents before after) result
put_answered remaining reader left contents before after (Ok reply) came tells ended sends broken silent =
    put_ends remaining reader left contents before after (Ok reply) came (λ e. absurd cc) tells ended (sends (λ e. absurd cc))
put_answered {result = result} remaining reader left contents before after (Err ReadFault) came tells ended sends broken silent =
    let read : IsErrOf result Read = broken refl in record {
      more = came.0;
      came = came.1;
      reads = record { reads = came.3.reads; once = came.3.once };
      reader = record { failed = λ _. tells.failed refl; sound = λ no. absurd (no read) };
      broken = λ _. (ap (seen_by contents) (silent read), came.2);
      answered = λ no. absurd (no read);
    }
put_answered remaining reader left contents before after (Err refusal) came tells ended sends broken silent =
    put_ends remaining reader left contents before after (Err refusal) came (λ e. absurd cc) tells ended (sends (λ e. absurd cc))

-- the result of `?` at a fault
pub passes : {T : Type 0} (r : Result T StreamFault) (fault : StreamFault) → IsErr r × IsErrAnd r (λ made. made ≡ fault) → r ≡ Err fault
passes (Ok v) fault is = absurd is.1
passes (Err made) fault is = ap Err is.1

-- a flush after calls that did not fail
later_flush_fault : {T : Type 0} (a b c : Watched T) → failures b ≡ failures a → FlushFailed b c → FlushFailed a c
later_flush_fault a b c same (inl rose) = inl (omega (arith, ap (λ f. f.flushes) same, rose))
later_flush_fault a b c same (inr last) = inr last

-- a flush failed after the whole text
took_all : (before mid after : End) (first text : List ℕ) → Appends (watched before) (watched mid) (first ++ text) → failures mid ≡ failures before
    → Keeps (watched mid) (watched after) → FlushFailed mid after → TakesPart before after first text
took_all before mid after first text put same kept failed = record {
  part = text;
  left_out = [];
  bytes_are = append-nil text;
  took = Appends-kept (watched before) (watched mid) (watched after) (first ++ text) put kept;
  failed = inr (refl, later_flush_fault before mid after same failed);
}

module _ {X E W : Type 0} (contents : W → Option (List ℕ)) (before mid after : Watched W) (text : List ℕ)
    (put : Wrote contents before mid text) (kept : Keeps (contents (watched mid)) (contents (watched after))) where
  -- a text was put, and then flushed
  pub flushed : (r : Result X E) → OnOk r (failures after ≡ failures mid) → OnOk r (Wrote contents before after text)
  flushed (Ok v) same = (Appends-kept (contents (watched before)) (contents (watched mid)) (contents (watched after)) text put.0 kept, same ∙ put.1)
  flushed (Err e) same = tt

  -- or its flush failed
  pub unflushed : (r : Result X E) → OnErr r (FlushFailed mid after) → OnErr r (TakesPart (seen_by contents before) (seen_by contents after) [] text)
  unflushed (Ok v) failed = tt
  unflushed (Err e) failed = took_all (seen_by contents before) (seen_by contents mid) (seen_by contents after) [] text put.0 put.1 kept failed

module _ {D : Type 0} {device : D → DiskState} (turn : Turn device) (request : Request) (date : HttpDate) (dated : unix_secs date ≡ turn.now / 1000)
    (left rest before mid after : End) (preface : Wrote bytes_of before mid (preface_of request.plan)) where
  abbrev framing : Framing
  framing = record { date = date; is_head = request.is_head }

  abbrev asked : Ends
  asked = record { left = left; rest = rest; before = mid; after = after }

  -- the word to go on if it was due, and then this text
  both : (text : List ℕ) → Appends (watched mid) (watched after) text → Appends (watched before) (watched after) (preface_of request.plan ++ text)
  both text then = Appends-trans (watched before) (watched mid) (watched after) (preface_of request.plan) text preface.0 then

  -- the request had its outcome, and the writer failed in the response
  cut : (more : List ℕ) (last : End) (outcome : RequestOutcome) → RequestGives turn request.plan more (watched rest) outcome
      → TakesPart before last (preface_of request.plan) (response_text framing outcome)
      → IsUnsaid turn request more (record { left = left; rest = rest; before = before; after = last })
      ⊎ IsCutOff turn request more (record { left = left; rest = rest; before = before; after = last })
  cut more last outcome gives took = inr (record { outcome = outcome; date = date; dated = dated; gives = gives; took = took })

  -- the plan was answered, and then the writer was flushed
  pub finished : (kept : End) (status : StatusCode) (out : Result StatusCode StreamFault) → PlanEnds turn request.plan framing asked (Ok status)
      → OnOk out (failures kept ≡ failures after) → OnErr out (EndFailed after kept) → Keeps (watched after) (watched kept) → OnErr out (FlushFailed after kept)
      → MatchResult out (λ given. given ≡ status) (λ fault. fault ≡ Write)
      → RequestEnds turn request (record { left = left; rest = rest; before = before; after = kept }) out
  finished kept status (Ok given) e sound failed k unflushed same =
      let r = e.answered (λ no. absurd cc) in
      let text = response_text framing r.outcome in record {
        more = e.more;
        came = e.came;
        reads = e.reads;
        reader = record { failed = λ no. absurd cc; sound = λ _. e.reader.sound (λ no. absurd cc) };
        writer = record { failed = λ no. absurd cc; sound = λ _. sound ∙ r.sends.1.1 ∙ preface.1 };
        answered = (
          preface_of request.plan ++ text,
          Appends-kept (watched before) (watched after) (watched kept) (preface_of request.plan ++ text) (both text r.sends.1.0) k,
          record { outcome = r.outcome; date = date; dated = dated; gives = r.comes_of_it; status_is = same ∙ r.sends.0; written = refl },
        );
        broken = λ no. absurd cc;
        stands = λ no. absurd cc;
      }
  finished kept status (Err Read) e sound failed k unflushed same = absurd cc
  finished kept status (Err Write) e sound failed k unflushed same =
      let r = e.answered (λ no. absurd cc) in
      let text = response_text framing r.outcome in record {
        more = e.more;
        came = e.came;
        reads = e.reads;
        reader = record { failed = λ no. absurd cc; sound = λ _. e.reader.sound (λ no. absurd cc) };
        writer = record { failed = λ _. later_fault before after kept (r.sends.1.1 ∙ preface.1) failed; sound = λ no. absurd (no refl) };
        answered = tt;
        broken = λ no. absurd cc;
        stands = λ _. cut e.more kept r.outcome r.comes_of_it (took_all before after kept (preface_of request.plan) text (both text r.sends.1.0) (r.sends.1.1 ∙ preface.1) k unflushed);
      }

  -- it was not
  pub passed_on : (fault : StreamFault) → PlanEnds turn request.plan framing asked (Err fault)
      → RequestEnds turn request (record { left = left; rest = rest; before = before; after = after }) (Err fault)
  passed_on Read e =
      let broken = e.broken refl in record {
        more = e.more;
        came = e.came;
        reads = e.reads;
        reader = e.reader;
        writer = record { failed = λ no. absurd cc; sound = λ _. ap failures broken.0 ∙ preface.1 };
        answered = tt;
        broken = λ _. (subst (λ (a : End). Appends (watched before) (watched a) (preface_of request.plan)) (sym broken.0) preface.0, broken.1);
        stands = λ no. absurd cc;
      }
  passed_on Write e =
      let r = e.answered (λ no. absurd cc) in
      let w = r.sends.1 in record {
        more = e.more;
        came = e.came;
        reads = e.reads;
        reader = e.reader;
        writer = record { failed = λ _. later_fault before mid after preface.1 w.failed.0; sound = λ no. absurd (no refl) };
        answered = tt;
        broken = λ no. absurd cc;
        stands = λ _. cut e.more after r.outcome r.comes_of_it (record {
          part = w.part;
          left_out = w.left_out;
          bytes_are = w.bytes_are;
          took = both w.part w.took;
          failed = inl (later_put_fault before mid after preface.1 w.failed);
        });
      }

-- the word to go on was not written
pub unsaid : {D : Type 0} {device : D → DiskState} {turn : Turn device} (request : Request) (ends : Ends) → ends.rest ≡ ends.left → turn.new ≡ turn.old → EndFailed ends.before ends.after
    → (preface_of request.plan ≡ go_on) × TakesPart ends.before ends.after [] go_on → RequestEnds turn request ends (Err Write)
unsaid request ends unread same failed took = record {
  more = [];
  came = subst (λ (rest : End). Consumes (watched ends.left) (watched rest) []) (sym unread) (Consumes-nil (watched ends.left));
  reads = subst (λ (rest : End). ReadsFor (empty_reads_for request.plan) ends.left rest []) (sym unread) (no_reads _ ends.left);
  reader = record { failed = λ no. absurd cc; sound = λ _. ap failures unread };
  writer = record { failed = λ _. failed; sound = λ no. absurd (no refl) };
  answered = tt;
  broken = λ no. absurd cc;
  stands = λ _. inl (took.0, refl, same, took.1);
}

-- A head and then a body: only one of them is cut off.
reads_behind_head : (read : HeadRead) (bytes more : List ℕ) (request : Request) → Asks bytes read (Some request) → (left behind rest : End)
    → calls behind ≤ calls left + (length bytes + head_reads read) → failures behind ≡ failures left
    → ReadsFor (empty_reads_for request.plan) behind rest more → ReadsFor 1 left rest (bytes ++ more)
reads_behind_head Ended bytes more request asks left behind rest few same then =
    let none : empty_reads_for request.plan ≡ 0 = ap (λ (r : Request). empty_reads_for r.plan) asks.1 in
    record {
      reads = omega (arith, few, then.reads, none, length-append bytes more);
      once = omega (arith, ap (λ f. f.all) same, then.once);
    }
reads_behind_head Whole bytes more request asks left behind rest few same then =
    one_read_more (empty_reads_for request.plan) left rest (bytes ++ more) (few_for request.plan) (reads_behind left behind rest bytes more _ (omega (arith, few)) same then)
reads_behind_head TooLong bytes more request asks left behind rest few same then =
    one_read_more (empty_reads_for request.plan) left rest (bytes ++ more) (few_for request.plan) (reads_behind left behind rest bytes more _ (omega (arith, few)) same then)

module _ {D : Type 0} {device : D → DiskState} (turn : Turn device) (recovers : RequestsRecover device) (idles : BrokenBodiesRecover device)
    (walks : RequestsMakeWalks device) (stays : BrokenBodiesMakeNoEvent device) (ends : Ends) (behind : End) (request : Request) (bytes : List ℕ) (read : HeadRead)
    (came : Consumes (watched ends.left) (watched behind) bytes) (sound : failures behind ≡ failures ends.left) (few : calls behind ≤ calls ends.left + (length bytes + head_reads read)) (head : HeadIs bytes read)
    (ended : read ≡ Ended → IsAtEnd (watched behind)) (asks : Asks bytes read (Some request)) where
  abbrev later : Ends
  later = record { left = behind; rest = ends.rest; before = ends.before; after = ends.after }

  reads : (more : List ℕ) → Consumes (watched behind) (watched ends.rest) more → Reads ends (bytes ++ more) more request
  reads more then = record {
    bytes = bytes;
    read = read;
    behind = watched behind;
    input_is = refl;
    head = head;
    came = came;
    ended = ended;
    passed = then;
    asks = asks;
  }

  all_came : (more : List ℕ) → Consumes (watched behind) (watched ends.rest) more → Consumes (watched ends.left) (watched ends.rest) (bytes ++ more)
  all_came more then = Consumes-trans (watched ends.left) (watched behind) (watched ends.rest) bytes more came then

  -- at most one read gave no byte: if that was one within the head, there is no body
  all_reads : (more : List ℕ) → ReadsFor (empty_reads_for request.plan) behind ends.rest more → ReadsFor 1 ends.left ends.rest (bytes ++ more)
  all_reads more then = reads_behind_head read bytes more request asks ends.left behind ends.rest few sound then

  -- a request that was read was answered
  pub served : (status : StatusCode) → RequestEnds turn request later (Ok status) → Serves turn ends (Answered status)
  served status e =
      let is = e.answered.2 in record {
        input = bytes ++ e.more;
        output = e.answered.0;
        came = all_came e.more e.came;
        sparing = all_reads e.more e.reads;
        written = e.answered.1;
        reader = e.reader.sound (λ no. absurd cc) ∙ sound;
        writer = e.writer.sound (λ no. absurd cc);
        responds = (
          e.more,
          request,
          reads e.more e.came,
          is,
          recovers turn request.plan e.more (watched ends.rest) is.outcome is.gives,
          walks turn bytes read request e.more (watched ends.rest) is.outcome asks is.gives,
        );
      }

  -- the reader failed in its body
  pub broken : (fault : StreamFault) → fault ≡ Read → RequestEnds turn request later (Err fault) → Breaks turn ends
  broken Write is e = absurd cc
  broken Read is_read e =
      let is = e.broken refl in record {
        input = bytes ++ e.more;
        output = preface_of request.plan;
        came = all_came e.more e.came;
        sparing = all_reads e.more e.reads;
        written = is.0;
        reader = later_fault ends.left behind ends.rest sound (e.reader.failed refl);
        writer = e.writer.sound (λ no. absurd cc);
        within = inr (e.more, request, reads e.more e.came, refl, is.1, idles turn request.plan e.more is.1, stays turn request.plan e.more is.1);
      }

  stood : (more : List ℕ) → IsUnsaid turn request more later ⊎ IsCutOff turn request more later → IsUnsaid turn request more ends ⊎ Stands turn request more ends
  stood more (inl unsaid) = inl unsaid
  stood more (inr cut) = inr (
    record { outcome = cut.outcome; date = cut.date; dated = cut.dated; gives = cut.gives; took = cut.took },
    recovers turn request.plan more (watched ends.rest) cut.outcome cut.gives,
    walks turn bytes read request more (watched ends.rest) cut.outcome asks cut.gives,
  )

  -- the writer failed
  pub halted : (fault : StreamFault) → fault ≡ Write → RequestEnds turn request later (Err fault) → Halts turn ends
  halted Read is e = absurd cc
  halted Write is e = record {
    input = bytes ++ e.more;
    came = all_came e.more e.came;
    sparing = all_reads e.more e.reads;
    reader = e.reader.sound (λ no. absurd cc) ∙ sound;
    writer = e.writer.failed refl;
    more = e.more;
    request = request;
    reads = reads e.more e.came;
    stands = stood e.more (e.stands refl);
  }

-- The body is read, and its lines are asked for, unless the reader failed.
use Rattle.std.proofs.Common.{◌≡◌, ◌∙◌, ℕ, Ok, ap, refl, sym, subst, inl, length, arith}
use Rattle.std.specs.Io.KnownBytes.{Consumes}
use Rattle.rs_io.specs.Watch.{watched}
use Rattle.rs_store.specs.declared.refusal.Refusal.TheVariants.{ReadFault}
use Rattle.rs_http.specs.Turn.{turn}
use Rattle.rs_http.specs.declared.request.RequestPlan.TheVariants.{Group}
use Rattle.rs_http.specs.Responses.{refused}
use Rattle.rs_http.specs.Outcomes.{GroupComesTo}
use Rattle.rs_http.proofs.FromBelow.{sound_reads}
use Rattle.rs_http.proofs.Asking.{answered}
use Rattle.rs_http.proofs.Endings.{unread, sent_ends}
use Rattle.rs_http.proofs.Groups.{unread_unasked}
use Rattle.rs_http.proofs.answer.group.Goals as goal

pub returns-in-Ok-clause-ends : goal.returns-in-Ok-clause-ends
returns-in-Ok-clause-ends g c = λ waits.
    let rest = g.R.Read.remaining (watched c.read_body.new.reader) in
    let body = c.as_slice.result.now in
    let same : body ≡ c.in-Ok.body.items = c.as_slice.ensures.value in
    let size : length body ≡ c.args.body_length = ap length same ∙ c.in-Ok.ensures.ok.0 in
    let came = subst (Consumes (g.R.Read.remaining (watched c.args.reader.now)) rest) (sym same) c.in-Ok.ensures.ok.1.0 in
    let asked = turn g.D.Disk.state c.args.source.now c.args.exchange.moment c.ask_group.new.source in
    sent_ends (Ok (Group c.args.body_length waits)) g.R.Read.remaining c.args.reader.now c.read_body.new.reader body refl came c.in-Ok.ensures.ok.1.1
    (sound_reads _ c.args.reader.now c.read_body.new.reader body (omega (arith, c.in-Ok.ensures.reads, size)) c.in-Ok.ensures.ok.1.1)
    (c.ask_group.ensures rest) (λ outcome h. subst (λ (n : ℕ). GroupComesTo asked n body rest outcome) size h)

pub returns-in-Ok-clause-silent : goal.returns-in-Ok-clause-silent
returns-in-Ok-clause-silent g c = λ is. absurd (unread c.ask_group.result (c.ask_group.ensures (g.R.Read.remaining (watched c.read_body.new.reader))).sends.2 is)

pub returns-in_default-clause-ends : goal.returns-in_default-clause-ends
returns-in_default-clause-ends g c = λ waits.
    let rest = g.R.Read.remaining (watched c.read_body.new.reader) in
    let came = c.in-Err.ensures.unread in
    let asked = turn g.D.Disk.state c.args.source.now c.args.exchange.moment c.args.source.now in
    let gives = GroupComesTo asked c.args.body_length came.0 rest in
    sent_ends (Ok (Group c.args.body_length waits)) g.R.Read.remaining c.args.reader.now c.read_body.new.reader came.0 refl came.1
    (c.in-Err.ensures.failed.sound (λ e. let fault : c.in-Err.refusal ≡ ReadFault = cc in c.in_default.not-ReadFault fault)) came.3
    (answered {contents = g.W.Write.contents} {before = c.args.writer.now} {after = c.write_refusal.new.writer} {framing = c.args.exchange.framing} {result = c.write_refusal.result} {comes = gives}
    (refused c.in-Err.refusal) (inl (refl, unread_unasked c.args.body_length came.0 rest c.in-Err.refusal c.in_default.not-ReadFault came.2)) c.write_refusal.ensures) (λ o h. h)

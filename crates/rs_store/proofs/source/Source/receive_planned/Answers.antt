use Rattle.std.proofs.Common.{rules, ◌≡◌, ℕ, ◌<◌, ◌+◌, ◌*◌, ◌≤◌, List, [], ◌∷◌, length, ◌∙◌, sym, ap, subst, arith, Err}
use Rattle.std.specs.Prelude.{replicate}
use Rattle.rs_io.specs.Watch.{watched}
use Rattle.rs_body.specs.Blocks.{part}
use Rattle.rs_store.proofs.FromBelow.{fits_sized}
use Rattle.rs_fixity.specs.declared.Digests.{Digests}
use Rattle.rs_fixity.specs.Digests.{digests}
use Rattle.rs_model.specs.Step.{moment_at}
use Rattle.rs_model.specs.declared.command.Command.{Command}
use Rattle.rs_model.specs.declared.command.Command.TheVariants.{Put}
use Rattle.rs_image.specs.Rooted.{Rooted, rooted}
use Rattle.rs_plan.specs.declared.plan.Plan.{Plan}
use Rattle.rs_plan.specs.Plans.{IsPlanned}
use Rattle.rs_plan.specs.Drafts.{plan_filled}
use Rattle.rs_store.specs.declared.refusal.Refusal.{Refusal}
use Rattle.rs_store.specs.declared.refusal.Refusal.TheVariants.{ReadFault, ShortBody}
use Rattle.rs_store.specs.Source.{Stored, rooted_in, state_of}
use Rattle.rs_store.specs.Writing.{HasWrittenBodies}
use Rattle.rs_store.specs.Answered.{Answers}
use Rattle.rs_store.specs.Received.{IsStopped, ReadsFor, empty_reads}
use Rattle.rs_store.proofs.Begun.{begun, only_one, broken_body, on_disk_one, one_extent, sized_one, some_extent, stand_one, stopped_body}
use Rattle.rs_store.proofs.Written.{inside_each}
use Rattle.rs_store.proofs.Received.{answered_whole, zeros, left_by, cut_from, refused_elsewhere}
use Rattle.rs_store.proofs.ReaderCounts.{sound_reads}
use Rattle.rs_store.proofs.source.Source.receive_planned.Goals as goal

-- there is an extent for the body
pub index-requires : goal.index-requires
index-requires g c =
    let body : List ℕ = replicate c.args.body_length 0 in
    let p : Plan = plan_filled c.args.name.now (digests body) c.args.plan.now in
    let planned : IsPlanned (rooted_in g.D.Disk.state c.args.self.now) (Put c.args.name.now c.requires.planned.0 body) c.requires.planned.1 p = c.requires.planned.2 body (zeros c.args.body_length).len in
    let some : 0 < length p.bodies.items = some_extent p.bodies.items body planned.bodies in
    search rules

pub receive-requires-clause-room : goal.receive-requires-clause-room
receive-requires-clause-room g c b is =
    let name = c.args.name.now in
    let body : List ℕ = replicate c.args.body_length 0 in
    let device = g.D.Disk.state in
    let old : Stored g.row.D.Denot = c.args.self.now in
    let rooted : Rooted = rooted_in device old in
    let p : Plan = plan_filled name (digests body) c.args.plan.now in
    let planned : IsPlanned rooted (Put name c.requires.planned.0 body) c.requires.planned.1 p = c.requires.planned.2 body (zeros c.args.body_length).len in
    let e = c.index.result.now in
    let alone = one_extent p.bodies.items body e planned.bodies c.index.ensures in
    let fits : 512 * b + 512 ≤ rooted.size = on_disk_one p.bodies.items rooted.size e alone (inside_each rooted.size p planned.inside).bodies b is in
    omega (arith, fits, ap (λ (s : Stored g.row.D.Denot). (rooted_in device s).size) c.self.view_is)

pub receive-requires-clause-fits : goal.receive-requires-clause-fits
receive-requires-clause-fits g c =
    let name = c.args.name.now in
    let n = c.args.body_length in
    let body : List ℕ = replicate n 0 in
    let p : Plan = plan_filled name (digests body) c.args.plan.now in
    let planned : IsPlanned (rooted_in g.D.Disk.state c.args.self.now) (Put name c.requires.planned.0 body) c.requires.planned.1 p = c.requires.planned.2 body (zeros n).len in
    let e = c.index.result.now in
    let alone = one_extent p.bodies.items body e planned.bodies c.index.ensures in
    omega (arith, fits_sized e (length body) (sized_one p.bodies.items body e alone planned.bodies), (zeros n).len)

-- the device failed
pub returns-in-Device-clause-came : goal.returns-in-Device-clause-came
returns-in-Device-clause-came g c =
    let name = c.args.name.now in
    let plan = c.args.plan.now in
    let none = zeros c.args.body_length in
    let writes = only_one plan.bodies.items _ c.index.result.now (c.requires.planned.2 _ none.len).bodies c.index.ensures c.in-Err.ensures.writes in
    let stop = c.in-Err.ensures.stopped in
    let rest = g.R.Read.remaining (watched c.receive.new.reader) in (
      stop.0,
      stop.1,
      λ kind now free planned. (
        subst (λ (r : Refusal). IsStopped c.args.body_length rest stop.0 r) c.in-Device.is stop.2,
        λ body is. broken_body g.D.Disk.state g.met.D.Disk.holds c.args.self.now _ c.self.view_is (plan_filled name (digests body) plan) c.receive.new.disk _ writes
            c.self.invariant.rooted.whole (Put name kind body) now (free body is.len) (planned body is.len) (ap (λ (x : Refusal). Err x) c.in-Device.is),
      ),
      subst (λ (r : Refusal). ReadsFor (empty_reads r) c.args.reader.now c.receive.new.reader stop.0) c.in-Device.is stop.3,
    )

-- the reader failed or ended
pub returns-in_default-clause-came : goal.returns-in_default-clause-came
returns-in_default-clause-came g c =
    let device = g.D.Disk.state in
    let old : Stored g.row.D.Denot = c.args.self.now in
    let name = c.args.name.now in
    let n = c.args.body_length in
    let plan = c.args.plan.now in
    let none = zeros n in
    let writes = only_one plan.bodies.items _ c.index.result.now (c.requires.planned.2 _ none.len).bodies c.index.ensures c.in-Err.ensures.writes in
    let stop = c.in-Err.ensures.stopped in (
      stop.0,
      stop.1,
      λ kind now free planned.
          cut_from device old _ name kind n now stop.0 (g.R.Read.remaining (watched c.receive.new.reader)) c.in-Err.refusal c.in_default.not-Device stop.2
          (λ fewer. record {
            fewer = fewer;
            decides = free;
            plan = λ body is. (plan_filled name (digests body) plan, planned body is);
            left = left_by device old _ name kind (replicate n 0) now
                (stopped_body device g.met.D.Disk.holds old _ c.self.view_is (plan_filled name (digests (replicate n 0)) plan) c.receive.new.disk _ writes
                c.self.invariant.rooted.whole (Put name kind (replicate n 0)) now (free _ none.len) (planned _ none.len)
                (λ is. absurd (c.in_default.not-Device cc)));
          }),
      stop.3,
    )

pub returns-in_default-clause-failed : goal.returns-in_default-clause-failed
returns-in_default-clause-failed g c = record {
  failed = λ e. c.in-Err.ensures.failed.failed (refused_elsewhere c.in-Err.refusal ReadFault e);
  sound = λ other. c.in-Err.ensures.failed.sound (λ e. other (refused_elsewhere c.in-Err.refusal ReadFault e));
}

pub returns-in_default-clause-ended : goal.returns-in_default-clause-ended
returns-in_default-clause-ended g c e =
    let stop = c.in-Err.ensures.stopped in
    let rest = g.R.Read.remaining (watched c.receive.new.reader) in
    let is : c.in-Err.refusal ≡ ShortBody = cc in
    let short : IsStopped c.args.body_length rest stop.0 ShortBody = subst (λ (r : Refusal). IsStopped c.args.body_length rest stop.0 r) is stop.2 in
    short.1

-- all of it came
pub finish-requires-clause-planned : goal.finish-requires-clause-planned
finish-requires-clause-planned g c =
    let device = g.D.Disk.state in
    let name = c.args.name.now in
    let kind = c.requires.planned.0 in
    let plan = c.args.plan.now in
    let moment = c.requires.planned.1 in
    let mid = c.receive.new.disk in
    let here : Rooted = rooted (device mid).size c.self.inside.slots.root c.self.inside.contents in
    let bytes = part c.index.result.now c.args.body_length (device mid).now.seen in
    let same : rooted_in device c.args.self.now ≡ here =
    ap (λ (s : Stored g.row.D.Denot). rooted_in device s) (sym c.self.view_is) ∙ ap (λ (n : ℕ). rooted n c.self.inside.slots.root c.self.inside.contents) (sym c.receive.ensures.writes.runs.runs.size) in
    let filled : c.fill.new.self ≡ plan_filled name (digests bytes) plan =
    c.fill.ensures ∙ ap (λ (d : Digests). plan_filled name d plan) c.in-Ok.ensures.digests in
    record {
      command = Put name kind bytes;
      moment = moment;
      planned = subst (λ (p : Plan). IsPlanned here (Put name kind bytes) moment p) (sym filled)
          (subst (λ (r : Rooted). IsPlanned r (Put name kind bytes) moment (plan_filled name (digests bytes) plan)) same
          (c.requires.planned.2 bytes c.in-Ok.ensures.whole));
    }

pub returns-clause-came : goal.returns-clause-came
returns-clause-came g c =
    let device = g.D.Disk.state in
    let old : Stored g.row.D.Denot = c.args.self.now in
    let o : Stored g.row.D.Denot = record { disk = c.self.inside.disk; slots = c.self.inside.slots; contents = c.self.inside.contents; is_closed = c.self.inside.is_closed } in
    let name = c.args.name.now in
    let n = c.args.body_length in
    let plan = c.args.plan.now in
    let mid = c.receive.new.disk in
    let e = c.index.result.now in
    let alone : plan.bodies.items ≡ e ∷ [] = one_extent plan.bodies.items (replicate n 0) e (c.requires.planned.2 (replicate n 0) (zeros n).len).bodies c.index.ensures in
    let writes = only_one plan.bodies.items (replicate n 0) e (c.requires.planned.2 (replicate n 0) (zeros n).len).bodies c.index.ensures c.in-Ok.ensures.writes in
    let bytes = part e n (device mid).now.seen in
    let whole : length bytes ≡ n = c.in-Ok.ensures.whole in
    let filled : c.fill.new.self ≡ plan_filled name (digests bytes) plan =
    c.fill.ensures ∙ ap (λ (d : Digests). plan_filled name d plan) c.in-Ok.ensures.digests in
    let left : Stored g.row.D.Denot = record { disk = mid; slots = o.slots; contents = o.contents; is_closed = o.is_closed } in (
      bytes,
      c.in-Ok.ensures.took.0,
      λ kind now free planned.
          let command : Command = Put name kind bytes in
          let stands : HasWrittenBodies device old left (plan_filled name (digests bytes) plan) (bytes ∷ []) =
          begun device g.met.D.Disk.holds old o c.self.view_is (plan_filled name (digests bytes) plan) mid _ writes
          (λ is. absurd cc) (bytes ∷ [])
          (planned bytes whole).free (stand_one plan.bodies.items e bytes (device mid).now.seen alone (ap (λ (k : ℕ). part e k (device mid).now.seen) whole)) in
          let said : Answers device old c.finish.new.self command now c.finish.result =
          c.finish.ensures.answers old command now
          (subst (λ (p : Plan). HasWrittenBodies device old left p (bytes ∷ [])) (sym filled) stands) (free bytes whole)
          (subst (λ (p : Plan). IsPlanned (rooted_in device old) command (moment_at (state_of device old) now) p) (sym filled) (planned bytes whole)) in
          answered_whole device old c.finish.new.self name kind n now bytes c.finish.result c.finish.ensures.late whole said,
      sound_reads _ c.args.reader.now c.receive.new.reader bytes (omega (arith, c.in-Ok.ensures.reads, whole)) c.in-Ok.ensures.took.1,
    )

use Rattle.std.proofs.Common.{true≢false, ◌≡◌, ℕ, [], ◌∷◌, length, sym, ◌∙◌, ap, subst}
use Rattle.rs_store.proofs.FromBelow.{part_only}
use Rattle.rs_model.specs.declared.command.Command.{Command}
use Rattle.rs_model.specs.declared.command.Command.TheVariants.{Put}
use Rattle.rs_image.specs.Rooted.{Rooted, rooted}
use Rattle.rs_plan.specs.Plans.{IsPlanned}
use Rattle.rs_store.specs.Source.{Stored, rooted_in}
use Rattle.rs_store.proofs.Begun.{begun, only_one, broken_body, on_ok, one_extent, stand_one}
use Rattle.rs_store.proofs.source.Source.carry_out_put.Goals as goal

-- the plan is one for the lists in memory
pub finish-requires-clause-planned : goal.finish-requires-clause-planned
finish-requires-clause-planned g c =
    let device = g.D.Disk.state in
    let old : Stored g.row.D.Denot = c.args.self.now in
    let command : Command = Put c.requires.planned.0 c.requires.planned.1 c.args.bytes.now in
    let here : Rooted = rooted (device c.write_body.new.disk).size c.self.inside.slots.root c.self.inside.contents in
    let same : rooted_in device old ≡ here =
    ap (λ (s : Stored g.row.D.Denot). rooted_in device s) (sym c.self.view_is) ∙ ap (λ (n : ℕ). rooted n c.self.inside.slots.root c.self.inside.contents) (sym c.write_body.ensures.writes.within.writes.runs.size) in
    record {
      command = command;
      moment = c.requires.planned.2;
      planned = subst (λ (r : Rooted). IsPlanned r command c.requires.planned.2 c.args.plan.now) same c.requires.planned.3;
    }

pub returns-then-is_err : goal.returns-then-is_err
returns-then-is_err g c = λ name kind now free planned.
    let device = g.D.Disk.state in
    let o : Stored g.row.D.Denot = record { disk = c.self.inside.disk; slots = c.self.inside.slots; contents = c.self.inside.contents; is_closed = c.self.inside.is_closed } in
    let p = c.args.plan.now in
    let e = c.index.result.now in
    let mid = c.write_body.new.disk in
    broken_body device g.met.D.Disk.holds c.args.self.now o c.self.view_is p mid _
    (only_one p.bodies.items c.args.bytes.now e planned.bodies c.index.ensures (part_only e 0 (length c.args.bytes.now) (device o.disk) (device mid) c.write_body.ensures.writes))
    c.self.invariant.rooted.whole (Put name kind c.args.bytes.now) now free planned (sym c.is_err.ensures.value ∙ c.if-is_err.true)

pub returns : goal.returns
returns g c = λ name kind now free planned.
    let device = g.D.Disk.state in
    let old : Stored g.row.D.Denot = c.args.self.now in
    let o : Stored g.row.D.Denot = record { disk = c.self.inside.disk; slots = c.self.inside.slots; contents = c.self.inside.contents; is_closed = c.self.inside.is_closed } in
    let p = c.args.plan.now in
    let e = c.index.result.now in
    let mid = c.write_body.new.disk in
    let fine = sym c.is_err.ensures.value ∙ c.if-is_err.false in
    let alone : p.bodies.items ≡ e ∷ [] = one_extent p.bodies.items c.args.bytes.now e planned.bodies c.index.ensures in
    let stand = stand_one p.bodies.items e c.args.bytes.now (device mid).now.seen alone (on_ok c.write_body.result fine c.write_body.ensures.reads) in
    c.finish.ensures.answers old (Put name kind c.args.bytes.now) now
    (begun device g.met.D.Disk.holds old o c.self.view_is p mid _
    (only_one p.bodies.items c.args.bytes.now e planned.bodies c.index.ensures (part_only e 0 (length c.args.bytes.now) (device o.disk) (device mid) c.write_body.ensures.writes))
    (λ is. true≢false (sym is ∙ fine)) (c.args.bytes.now ∷ []) planned.free stand) free planned

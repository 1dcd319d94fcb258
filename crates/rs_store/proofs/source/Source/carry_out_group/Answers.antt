use Rattle.std.proofs.Common.{true≢false, ◌≡◌, ◌∙◌, ℕ, List, ap, sym, subst, IsErr}
use Rattle.rs_extent.specs.declared.Extent.{Extent}
use Rattle.rs_extent.specs.Extents.{AreApart, AreOnDisk}
use Rattle.rs_body.specs.Outside.{WritesOnly}
use Rattle.rs_model.specs.declared.command.Command.TheVariants.{Group}
use Rattle.rs_image.specs.Rooted.{Rooted, rooted}
use Rattle.rs_plan.specs.Plans.{AreBodies, IsPlanned}
use Rattle.rs_plan.specs.Room.{bodies_kept}
use Rattle.rs_store.specs.Source.{Stored, rooted_in}
use Rattle.rs_store.proofs.Begun.{begun, broken_body, on_ok}
use Rattle.rs_store.proofs.Written.{apart_each, inside_each}
use Rattle.rs_store.proofs.source.Source.carry_out_group.Goals as goal

-- the places of the plan are on the disk, apart from one another
pub write_bodies-requires-clause-room : goal.write_bodies-requires-clause-room
write_bodies-requires-clause-room g c =
    let device = g.D.Disk.state in
    let old : Stored g.row.D.Denot = c.args.self.now in
    let plan = c.args.plan.now in
    let on_disk : AreOnDisk plan.bodies.items (rooted_in device old).size = (inside_each (rooted_in device old).size plan c.requires.planned.1.inside).bodies in
    subst (λ (es : List Extent). AreOnDisk es (device c.self.inside.disk).size) (sym c.deref.ensures.value)
    (subst (λ (s : Stored g.row.D.Denot). AreOnDisk plan.bodies.items (rooted_in device s).size) (sym c.self.view_is) on_disk)

pub write_bodies-requires-clause-apart : goal.write_bodies-requires-clause-apart
write_bodies-requires-clause-apart g c =
    subst (λ (es : List Extent). AreApart es) (sym c.deref.ensures.value) (apart_each c.args.plan.now c.requires.planned.1.apart).bodies

pub returns-then-is_err : goal.returns-then-is_err
returns-then-is_err g c = λ now free planned.
    let device = g.D.Disk.state in
    let o : Stored g.row.D.Denot = record { disk = c.self.inside.disk; slots = c.self.inside.slots; contents = c.self.inside.contents; is_closed = c.self.inside.is_closed } in
    let p = c.args.plan.now in
    let mid = c.write_bodies.new.disk in
    let writes = subst (λ (es : List Extent). WritesOnly es (IsErr c.write_bodies.result) (device o.disk) (device mid)) c.deref.ensures.value c.write_bodies.ensures.writes in
    broken_body device g.met.D.Disk.holds c.args.self.now o c.self.view_is p mid _ writes c.self.invariant.rooted.whole (Group c.args.items.now) now free planned
    (sym c.is_err.ensures.value ∙ c.if-is_err.true)

-- the plan is one for the lists in memory
pub finish-requires-clause-planned : goal.finish-requires-clause-planned
finish-requires-clause-planned g c =
    let device = g.D.Disk.state in
    let old : Stored g.row.D.Denot = c.args.self.now in
    let here : Rooted = rooted (device c.write_bodies.new.disk).size c.self.inside.slots.root c.self.inside.contents in
    let same : rooted_in device old ≡ here =
    ap (λ (s : Stored g.row.D.Denot). rooted_in device s) (sym c.self.view_is) ∙ ap (λ (n : ℕ). rooted n c.self.inside.slots.root c.self.inside.contents) (sym c.write_bodies.ensures.writes.runs.runs.size) in
    record {
      command = Group c.args.items.now;
      moment = c.requires.planned.0;
      planned = subst (λ (r : Rooted). IsPlanned r (Group c.args.items.now) c.requires.planned.0 c.args.plan.now) same c.requires.planned.1;
    }

pub returns : goal.returns
returns g c = λ now free planned.
    let device = g.D.Disk.state in
    let old : Stored g.row.D.Denot = c.args.self.now in
    let o : Stored g.row.D.Denot = record { disk = c.self.inside.disk; slots = c.self.inside.slots; contents = c.self.inside.contents; is_closed = c.self.inside.is_closed } in
    let p = c.args.plan.now in
    let mid = c.write_bodies.new.disk in
    let fine = sym c.is_err.ensures.value ∙ c.if-is_err.false in
    let writes = subst (λ (es : List Extent). WritesOnly es (IsErr c.write_bodies.result) (device o.disk) (device mid)) c.deref.ensures.value c.write_bodies.ensures.writes in
    let stand : AreBodies (device mid).now.seen p.bodies.items (bodies_kept c.args.items.now) =
    subst (λ (es : List Extent). AreBodies (device mid).now.seen es (bodies_kept c.args.items.now)) c.deref.ensures.value
    (on_ok c.write_bodies.result fine c.write_bodies.ensures.stand) in
    c.finish.ensures.answers old (Group c.args.items.now) now
    (begun device g.met.D.Disk.holds old o c.self.view_is p mid _ writes (λ is. true≢false (sym is ∙ fine)) (bodies_kept c.args.items.now) planned.free stand) free planned

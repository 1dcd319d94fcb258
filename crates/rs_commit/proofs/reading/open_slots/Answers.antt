use Rattle.std.proofs.Common.{◌≡◌, arith, subst, sym, ◌∙◌, ap}
use Rattle.rs_disk.specs.Medium.{Medium}
use Rattle.rs_commit.specs.declared.slot.Slot.TheVariants.{Second}
use Rattle.rs_commit.specs.Slots.{block, content}
use Rattle.rs_commit.specs.Commit.{IsReady}
use Rattle.rs_commit.proofs.Contents.{current_by}
use Rattle.rs_commit.proofs.reading.open_slots.Goals as goal

pub returns-in-Some-clause-found : goal.returns-in-Some-clause-found
returns-in-Some-clause-found g c honest =
    let image = (g.D.Disk.state c.args.disk.now).now.seen in
    let one = c.in_ok-first.ensures.content (c.read_slot-2.ensures.runs.runs.lasts honest) in
    let two = c.in_ok-second.ensures.content honest ∙ ap (λ (m : Medium). content (block m.seen Second)) c.read_slot.ensures.runs.now in
    current_by image c.in_ok-first.first c.in_ok-second.second one two ∙ sym c.in-Some.ensures

pub returns-in-None-clause-none : goal.returns-in-None-clause-none
returns-in-None-clause-none g c _ honest =
    let image = (g.D.Disk.state c.args.disk.now).now.seen in
    let one = c.in_ok-first.ensures.content (c.read_slot-2.ensures.runs.runs.lasts honest) in
    let two = c.in_ok-second.ensures.content honest ∙ ap (λ (m : Medium). content (block m.seen Second)) c.read_slot.ensures.runs.now in
    current_by image c.in_ok-first.first c.in_ok-second.second one two ∙ sym c.in-None.ensures

pub returns-in-Some-clause-ready : goal.returns-in-Some-clause-ready
returns-in-Some-clause-ready g c honest room settled =
    let old = g.D.Disk.state c.args.disk.now in
    let new = g.D.Disk.state c.read_slot-2.new.disk in
    let is = g.met.D.Disk.holds c.args.disk.now in
    let same : new.now ≡ old.now = c.read_slot-2.ensures.runs.now ∙ c.read_slot.ensures.runs.now in
    let before : IsReady c.in-Some.slots old.now =
    record { room = omega (arith, is.settled, is.image.size, room); current = returns-in-Some-clause-found g c honest; settled = settled } in
    subst (λ (m : Medium). IsReady c.in-Some.slots m) (sym same) before

use Rattle.std.proofs.Common.{◌≡◌, ◌≤◌, ◌∷◌, [], length, sym, ◌∙◌, ap, arith}
use Rattle.std.proofs.lemmas.Result.{err_from_is_err_and, on_ok_weaker}
use Rattle.rs_disk.specs.Medium.{over, resting}
use Rattle.rs_commit.specs.declared.slot.Slot.{Slot}
use Rattle.rs_commit.specs.Slots.{Standing, offset, other}
use Rattle.rs_commit.specs.Commit.{with_root}
use Rattle.rs_commit.proofs.Runs.{gate_slots, payload_slots, slots_then, closed_leaves, staged_leaves, opened_leaves, all_written}
use Rattle.rs_commit.proofs.slots.Slots.put_root.Goals as goal

pub returns-in_err-close_gate-clause-runs : goal.returns-in_err-close_gate-clause-runs
returns-in_err-close_gate-clause-runs g c = rw (err_from_is_err_and c.from_residual.result c.from_residual.ensures.1).1 (gate_slots c.other-spare.result c.in_err-close_gate.ensures.writes)

pub returns-in_err-write_behind-clause-runs : goal.returns-in_err-write_behind-clause-runs
returns-in_err-write_behind-clause-runs g c =
    rw (err_from_is_err_and c.from_residual-in_err-write_behind.result c.from_residual-in_err-write_behind.ensures.1).1
    (slots_then (gate_slots c.other-spare.result c.in_ok-close_gate.ensures.writes) (payload_slots c.other-spare.result c.in_err-write_behind.ensures.writes))

pub returns-clause-runs : goal.returns-clause-runs
returns-clause-runs g c =
    slots_then (gate_slots c.other-spare.result c.in_ok-close_gate.ensures.writes)
    (slots_then (payload_slots c.other-spare.result c.in_ok-write_behind.ensures.writes) (gate_slots c.other-spare.result c.open_gate.ensures.writes))

pub returns-in_err-close_gate-clause-any_moment : goal.returns-in_err-close_gate-clause-any_moment
returns-in_err-close_gate-clause-any_moment g c greater ready =
    closed_leaves c.args.self.now (g.D.Disk.state c.args.disk.now) (g.met.D.Disk.holds c.args.disk.now) ready c.args.root c.other-spare.result
    (c.other-spare.ensures ∙ ap (λ (s : Standing). other s.slot) c.self.view_is) c.self.inside.spare_open (sym (ap (λ (s : Standing). s.spare_open) c.self.view_is))
    (g.D.Disk.state c.close_gate.new.disk) c.close_gate.ensures.writes.leaves c.close_gate.ensures.nothing

pub returns-in_err-write_behind-clause-any_moment : goal.returns-in_err-write_behind-clause-any_moment
returns-in_err-write_behind-clause-any_moment g c greater ready =
    staged_leaves c.args.self.now (g.D.Disk.state c.args.disk.now) (g.met.D.Disk.holds c.args.disk.now) ready c.args.root c.other-spare.result
    (c.other-spare.ensures ∙ ap (λ (s : Standing). other s.slot) c.self.view_is) c.self.inside.spare_open (sym (ap (λ (s : Standing). s.spare_open) c.self.view_is))
    (g.D.Disk.state c.close_gate.new.disk) c.close_gate.ensures.writes.leaves c.close_gate.ensures.nothing c.in_ok-close_gate.ensures.closed
    (g.D.Disk.state c.write_behind.new.disk) (g.met.D.Disk.holds c.close_gate.new.disk) c.close_gate.ensures.writes.writes.runs.size c.write_behind.ensures.writes.leaves

pub returns-clause-any_moment : goal.returns-clause-any_moment
returns-clause-any_moment g c greater ready =
    opened_leaves c.args.self.now (g.D.Disk.state c.args.disk.now) (g.met.D.Disk.holds c.args.disk.now) ready c.args.root c.other-spare.result
    (c.other-spare.ensures ∙ ap (λ (s : Standing). other s.slot) c.self.view_is) c.self.inside.spare_open (sym (ap (λ (s : Standing). s.spare_open) c.self.view_is))
    (g.D.Disk.state c.close_gate.new.disk) c.close_gate.ensures.writes.leaves c.close_gate.ensures.nothing c.in_ok-close_gate.ensures.closed
    (g.D.Disk.state c.write_behind.new.disk) (g.met.D.Disk.holds c.close_gate.new.disk) c.close_gate.ensures.writes.writes.runs.size c.write_behind.ensures.writes.leaves
    c.in_ok-write_behind.ensures.written c.requires.lawful greater (g.D.Disk.state c.open_gate.new.disk) c.open_gate.ensures.writes.leaves

pub returns-clause-written : goal.returns-clause-written
returns-clause-written g c =
    let old = g.D.Disk.state c.args.disk.now in
    let mid = g.D.Disk.state c.close_gate.new.disk in
    let next = g.D.Disk.state c.write_behind.new.disk in
    let last = g.D.Disk.state c.open_gate.new.disk in
    let is = g.met.D.Disk.holds c.args.disk.now in
    let spare = c.other-spare.result in
    let room : 1024 ≤ length old.now.seen = omega (arith, c.requires.size, is.image.size, is.settled) in
    let same : spare ≡ other c.args.self.now.slot = c.other-spare.ensures ∙ ap (λ (s : Standing). other s.slot) c.self.view_is in
    on_ok_weaker {P = last.now ≡ resting (over next.now.seen (offset spare) (1 ∷ []))} {Q = last.now ≡ resting (with_root old.now.seen (other c.args.self.now.slot) c.args.root)} c.open_gate.result
    (λ opened. all_written spare c.args.root c.requires.lawful c.self.inside.spare_open old mid next last room c.in_ok-close_gate.ensures.closed c.close_gate.ensures.nothing c.in_ok-write_behind.ensures.written opened
    ∙ ap (λ (s : Slot). resting (with_root old.now.seen s c.args.root)) same)
    c.open_gate.ensures.opened

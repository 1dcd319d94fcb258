use Rattle.std.proofs.Common.{◌≡◌, inl, inr, ◌≤◌, ◌∷◌, [], length, ℕ, ◌∙◌, ap, arith, Ok, Err}
use Rattle.std.proofs.lemmas.Result.{err_from_is_err_and, on_ok_weaker}
use Rattle.rs_disk.specs.Medium.{Medium, over, resting}
use Rattle.rs_commit.specs.Format.{with_closed_gates, AreShut}
use Rattle.rs_commit.proofs.Closed.{gates_closed}
use Rattle.rs_commit.proofs.Runs.{gate_leaves, gates_leave, slots_within, slots_written, slots_then, within_one}
use Rattle.rs_commit.proofs.copying.close_slots.Goals as goal

pub returns-in_err-write-clause-runs : goal.returns-in_err-write-clause-runs
returns-in_err-write-clause-runs g c =
    let e = c.in_err-write.ensures in
    rw (err_from_is_err_and c.from_residual.result c.from_residual.ensures.1).1
    (slots_written c.offset.result (0 ∷ []) (Err c.in_err-write.field-0.0) (g.met.D.Disk.holds c.args.disk.now) c.requires (omega (arith, c.offset.ensures)) e.counts e.writes e.tears e.keeps)

pub returns-clause-runs : goal.returns-clause-runs
returns-clause-runs g c =
    let e = c.in_ok-write.ensures in
    slots_then (slots_written c.offset.result (0 ∷ []) (Ok c.in_ok-write.field-0) (g.met.D.Disk.holds c.args.disk.now) c.requires (omega (arith, c.offset.ensures)) e.counts e.writes e.tears e.keeps)
    (slots_within c.write_settled.ensures.writes (omega (arith, c.offset-2.ensures)))

pub returns-in_err-write-clause-gates : goal.returns-in_err-write-clause-gates
returns-in_err-write-clause-gates g c =
    let e = c.in_err-write.ensures in
    gate_leaves c.offset.result (inl c.offset.ensures)
    (within_one c.offset.result (0 ∷ []) (Err c.in_err-write.field-0.0) (g.met.D.Disk.holds c.args.disk.now) (omega (arith, c.requires, c.offset.ensures)) e.counts e.writes e.tears e.keeps)

pub returns-clause-gates : goal.returns-clause-gates
returns-clause-gates g c =
    let e = c.in_ok-write.ensures in
    gates_leave
    (gate_leaves c.offset.result (inl c.offset.ensures)
    (within_one c.offset.result (0 ∷ []) (Ok c.in_ok-write.field-0) (g.met.D.Disk.holds c.args.disk.now) (omega (arith, c.requires, c.offset.ensures)) e.counts e.writes e.tears e.keeps))
    (gate_leaves c.offset-2.result (inr c.offset-2.ensures) c.write_settled.ensures.writes)

pub returns-clause-written : goal.returns-clause-written
returns-clause-written g c =
    let old = (g.D.Disk.state c.args.disk.now).now.seen in
    let mid = (g.D.Disk.state c.write.new.self).now.seen in
    let last = (g.D.Disk.state c.write_settled.new.disk).now in
    let first : mid ≡ over old 0 (0 ∷ []) = ap (λ (m : Medium). m.seen) c.in_ok-write.ensures.writes.now ∙ ap (λ (k : ℕ). over old k (0 ∷ [])) c.offset.ensures in
    on_ok_weaker {P = last ≡ resting (over mid c.offset-2.result (0 ∷ []))} {Q = last ≡ resting (with_closed_gates old)} c.write_settled.result
    (λ settled. settled ∙ (λ i. resting (over (first i) (c.offset-2.ensures i) (0 ∷ [])))) c.write_settled.ensures.settled

pub returns-clause-shut : goal.returns-clause-shut
returns-clause-shut g c =
    let old = g.D.Disk.state c.args.disk.now in
    let last = (g.D.Disk.state c.write_settled.new.disk).now in
    let is = g.met.D.Disk.holds c.args.disk.now in
    let room : 1024 ≤ length old.now.seen = omega (arith, c.requires, is.image.size, is.settled) in
    on_ok_weaker {P = last ≡ resting (with_closed_gates old.now.seen)} {Q = AreShut last} c.write_settled.result
    (λ are. gates_closed old.now.seen room last are) (returns-clause-written g c)

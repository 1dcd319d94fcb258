use Rattle.std.proofs.Common.{◌≡◌, ◌≤◌, ◌∷◌, [], ℕ, length, refl, ◌∙◌, ap, arith}
use Rattle.std.proofs.lemmas.Result.{err_from_is_err_and}
use Rattle.rs_disk.specs.Medium.{over, resting}
use Rattle.rs_disk.specs.Leaves.{Leaves}
use Rattle.rs_commit.specs.Format.{with_first_root, AreShut, NoneOrRoot}
use Rattle.rs_commit.proofs.Closed.{first_ready, first_written, stage_leaves, open_leaves}
use Rattle.rs_commit.proofs.Runs.{slots_within, slots_then}
use Rattle.rs_commit.proofs.copying.open_first.Given.{Over}
use Rattle.rs_commit.proofs.copying.open_first.Goals as goal
use Rattle.rs_commit.proofs.copying.open_first.Goals.{After-write_settled}

pub returns-in_err-stage_first-clause-runs : goal.returns-in_err-stage_first-clause-runs
returns-in_err-stage_first-clause-runs g c =
    rw (err_from_is_err_and c.from_residual.result c.from_residual.ensures.1).1 (slots_within c.in_err-stage_first.ensures.writes (omega arith))

pub returns-in_err-write_settled-clause-runs : goal.returns-in_err-write_settled-clause-runs
returns-in_err-write_settled-clause-runs g c =
    rw (err_from_is_err_and c.from_residual-in_err-write_settled.result c.from_residual-in_err-write_settled.ensures.1).1
    (slots_then (slots_within c.in_ok-stage_first.ensures.writes (omega arith)) (slots_within c.in_err-write_settled.ensures.writes (omega (arith, c.offset.ensures))))

pub returns-clause-runs : goal.returns-clause-runs
returns-clause-runs g c =
    slots_then (slots_within c.in_ok-stage_first.ensures.writes (omega arith)) (slots_within c.in_ok-write_settled.ensures.writes (omega (arith, c.offset.ensures)))

pub returns-in_err-stage_first-clause-any_moment : goal.returns-in_err-stage_first-clause-any_moment
returns-in_err-stage_first-clause-any_moment g c shut =
    stage_leaves (g.D.Disk.state c.args.disk.now) (g.met.D.Disk.holds c.args.disk.now) c.args.root.now c.stage_first.ensures.lawful shut.room shut (g.D.Disk.state c.stage_first.new.disk) c.stage_first.ensures.writes.leaves

opening : (g : Over) (c : After-write_settled g) → AreShut (g.D.Disk.state c.args.disk.now).now
    → Leaves (g.D.Disk.state c.args.disk.now) (g.D.Disk.state c.write_settled.new.disk) (λ _. NoneOrRoot (g.D.Disk.state c.args.disk.now).now c.args.root.now)
opening g c shut =
    open_leaves (g.D.Disk.state c.args.disk.now) (g.met.D.Disk.holds c.args.disk.now) c.args.root.now c.stage_first.ensures.lawful shut.room shut (g.D.Disk.state c.stage_first.new.disk)
    (g.D.Disk.state c.write_settled.new.disk) c.offset.result c.offset.ensures c.stage_first.ensures.writes.leaves c.in_ok-stage_first.ensures.written c.write_settled.ensures.writes.leaves

pub returns-in_err-write_settled-clause-any_moment : goal.returns-in_err-write_settled-clause-any_moment
returns-in_err-write_settled-clause-any_moment g c = opening g (goal.at.returns-in_err-write_settled-clause-any_moment g c).After-write_settled

pub returns-clause-any_moment : goal.returns-clause-any_moment
returns-clause-any_moment g c = opening g (goal.at.returns-clause-any_moment g c).After-write_settled

pub returns-clause-made : goal.returns-clause-made
returns-clause-made g c =
    let root = c.args.root.now in
    let lawful = c.stage_first.ensures.lawful in
    let old = g.D.Disk.state c.args.disk.now in
    let mid = (g.D.Disk.state c.stage_first.new.disk).now in
    let new = (g.D.Disk.state c.write_settled.new.disk).now in
    let is = g.met.D.Disk.holds c.args.disk.now in
    let room : 1024 ≤ length old.now.seen = omega (arith, c.requires.size, is.image.size, is.settled) in
    let opened : new ≡ resting (over mid.seen 0 (1 ∷ [])) = c.in_ok-write_settled.ensures.settled ∙ ap (λ (k : ℕ). resting (over mid.seen k (1 ∷ []))) c.offset.ensures in
    let are : new ≡ resting (with_first_root old.now.seen root) = first_written root lawful old.now mid new room c.in_ok-stage_first.ensures.written opened in
    rw c.fresh.ensures (record { slots = refl; written = are; ready = λ shut. first_ready old.now old.size is root lawful room shut new are })

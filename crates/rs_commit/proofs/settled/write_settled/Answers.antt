use Rattle.std.proofs.Common.{Ok, Err}
use Rattle.std.proofs.lemmas.Result.{err_from_is_err_and}
use Rattle.rs_commit.proofs.FromBelow.{nothing_synced}
use Rattle.rs_commit.proofs.Runs.{within_one, within_then}
use Rattle.rs_commit.proofs.settled.write_settled.Goals as goal

pub returns-in_err-write-clause-writes : goal.returns-in_err-write-clause-writes
returns-in_err-write-clause-writes g c =
    let e = c.in_err-write.ensures in
    let p = err_from_is_err_and c.from_residual.result c.from_residual.ensures.1 in
    rw p.1 (within_one c.args.at c.args.bytes.now (Err c.in_err-write.field-0.0)
    (g.met.D.Disk.holds c.args.disk.now) c.requires e.counts e.writes e.tears e.keeps)

pub returns-clause-writes : goal.returns-clause-writes
returns-clause-writes g c =
    let e = c.in_ok-write.ensures in
    let s = c.sync.ensures in
    within_then (within_one c.args.at c.args.bytes.now (Ok c.in_ok-write.field-0) (g.met.D.Disk.holds c.args.disk.now) c.requires e.counts e.writes e.tears e.keeps)
    (nothing_synced (g.D.Disk.state c.write.new.self) (g.D.Disk.state c.sync.new.self) c.sync.result s.counts (g.met.D.Disk.holds c.write.new.self) s.settles s.stays) s.keeps

use Rattle.rs_recovery.proofs.Replies.{turns_are_seen}
use Rattle.rs_recovery.proofs.laws.turns_are_seen.Goals as goal

pub returns : goal.returns
returns g c = turns_are_seen g.D.Disk.state c.laws_below.ensures

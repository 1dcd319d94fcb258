use Rattle.rs_recovery.proofs.Mirrored.{sessions_mirrored}
use Rattle.rs_recovery.proofs.mirroring.sessions_are_mirrored.Goals as goal

pub returns : goal.returns
returns c =
    sessions_mirrored c.destination_mirrors.ensures.mirrored c.destination_mirrors.ensures.held c.walks_are_catalogued.ensures.held c.sessions_stand.ensures

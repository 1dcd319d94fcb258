-- The file was made, and the source was not copied to it.
use Rattle.std.proofs.Common.{◌∙◌}
use Rattle.rs_file.specs.File.{state_of as device_of, events_of}
use Rattle.rs_file.specs.Replay.{opened}
use Rattle.rs_source.proofs.Copying.{as_opened, copied, uncopied}
use Rattle.rs_source.proofs.file.copy_to_file.Goals as goal

pub returns-in-Err-clause-uncopied : goal.returns-in-Err-clause-uncopied
returns-in-Err-clause-uncopied g c =
    let to = c.in_ok-disk.disk in
    uncopied g.D.Disk.state (device_of g.S.Start) c.args.source.now c.copy_to.new.self g.S.Start.first c.args.size c.on.result c.in-Err.disk to c.in-Err.fault
    c.on.ensures.disk (c.on.ensures.error ∙ c.into.ensures)
    (as_opened g.S.Start.first g.S.Start.torn to.size c.args.size (events_of to) c.in_ok-disk.ensures.events c.in_ok-disk.ensures.size)
    (rw c.in-Err.is at c.copy_to.ensures)

pub returns-in-Ok-clause-copied : goal.returns-in-Ok-clause-copied
returns-in-Ok-clause-copied g c =
    let to = c.in_ok-disk.disk in
    copied g.D.Disk.state (device_of g.S.Start) c.args.source.now c.copy_to.new.self (opened g.S.Start.first c.args.size) to c.in-Ok.copy
    (as_opened g.S.Start.first g.S.Start.torn to.size c.args.size (events_of to) c.in_ok-disk.ensures.events c.in_ok-disk.ensures.size)
    (rw c.in-Ok.is at c.copy_to.ensures)

-- The file was made, and no source on it.
use Rattle.std.proofs.Common.{◌∙◌, ap}
use Rattle.rs_file.specs.File.{state_of as device_of, events_of}
use Rattle.rs_file.specs.Replay.{opened}
use Rattle.rs_source.proofs.Beginning.{unformatted}
use Rattle.rs_source.proofs.Copying.{as_opened}
use Rattle.rs_source.proofs.file.format_file.Goals as goal

pub returns-in-Err-clause-unformatted : goal.returns-in-Err-clause-unformatted
returns-in-Err-clause-unformatted g c =
    let to = c.in_ok-disk.disk in
    let made = c.args.made.now in
    let device = device_of g.S.Start in
    unformatted device made.base.now made.limit (opened g.S.Start.first made.size) c.on.result c.in-Err.disk to c.in-Err.fault
    c.on.ensures.disk (c.on.ensures.error ∙ c.into.ensures)
    (as_opened g.S.Start.first g.S.Start.torn to.size made.size (events_of to) c.in_ok-disk.ensures.events c.in_ok-disk.ensures.size)
    (record {
      causes = record { bad_base = c.in-Err.ensures.bad_base; bad_limit = c.in-Err.ensures.bad_limit; too_small = c.in-Err.ensures.too_small };
      untouched = λ other. ap device (c.in-Err.ensures.untouched other);
      runs = c.in-Err.ensures.runs;
    })

-- The bytes of the file represent the state that is opened.
use Rattle.std.proofs.Common.{subst}
use Rattle.rs_disk.specs.Medium.{Medium}
use Rattle.rs_file.specs.File.{state_of as device_of}
use Rattle.rs_image.specs.StateOfImage.{StandsFor}
use Rattle.rs_store.specs.Source.{state_of}
use Rattle.rs_source.proofs.Opening.{opened_file}
use Rattle.rs_source.proofs.file.open_file.Goals as goal

pub returns-in-Ok-clause-held : goal.returns-in-Ok-clause-held
returns-in-Ok-clause-held g c = λ honest.
    let device = device_of g.S.Start in
    subst (λ (m : Medium). StandsFor m.seen (state_of device c.in-Ok.source))
    (c.in_ok-disk.ensures.first (c.in-Ok.ensures.runs.runs.lasts honest)) (c.in-Ok.ensures.found.holds honest).1

pub returns-in-Ok-clause-headline : goal.returns-in-Ok-clause-headline
returns-in-Ok-clause-headline g c =
    opened_file (device_of g.S.Start) g.S.Start.first c.in_ok-disk.disk c.in-Ok.source c.in-Ok.ensures.headline
    (λ honest. c.in_ok-disk.ensures.first (c.in-Ok.ensures.runs.runs.lasts honest))

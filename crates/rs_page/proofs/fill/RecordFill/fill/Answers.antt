use Rattle.rs_page.proofs.Filled.{record_as_long}
use Rattle.rs_page.proofs.fill.RecordFill.fill.Goals as goal

pub returns-clause-size : goal.returns-clause-size
returns-clause-size c =
    record_as_long c.args.digests c.args.self.now c.show_lengths-2.ensures.md5 c.show_lengths-2.ensures.sha256 c.show_lengths.ensures.md5 c.show_lengths.ensures.sha256

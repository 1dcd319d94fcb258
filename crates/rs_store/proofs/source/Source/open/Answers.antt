use Rattle.std.proofs.Common.{refl}
use Rattle.rs_store.proofs.Opened.{holds_told, stands_told}
use Rattle.rs_store.proofs.source.Source.open.Goals as goal

pub returns-in-Ok-clause-opened : goal.returns-in-Ok-clause-opened
returns-in-Ok-clause-opened g c =
    let device = g.D.Disk.state in
    let disk = c.read_settled.new.disk in
    let seen = (device c.args.disk).now.seen in
    let is = c.in-Ok.ensures in
    let slots = c.in-Ok.slots in
    let lists = c.in-Ok.found.contents in
    record {
      is_open = refl;
      slots = λ honest. (is.found honest).slots;
      holds = λ honest. (
        holds_told device disk slots lists seen (is.found honest).ready is.resting (is.found honest).tells,
        stands_told device disk slots lists seen is.resting (is.found honest).slots (is.found honest).tells,
      );
    }

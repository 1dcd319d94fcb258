use Rattle.std.proofs.Common.{rules, [], ◌∷◌}
use Rattle.rs_store.proofs.FromBelow.{beside_first, only_as, part_only}
use Rattle.rs_store.proofs.writing.write_directory.Goals as goal

pub returns-in_err-write_body-clause-writes : goal.returns-in_err-write_body-clause-writes
returns-in_err-write_body-clause-writes g c =
    record { runs = search rules; outside = λ kept beside. c.write_body.ensures.writes.outside kept (beside_first kept c.args.extent [] beside) }

pub returns-clause-writes : goal.returns-clause-writes
returns-clause-writes g c =
    let old = g.D.Disk.state c.args.disk.now in
    let new = g.D.Disk.state c.write_body.new.disk in
    only_as (c.args.extent ∷ []) old new (λ is. absurd cc) (λ is. absurd cc) (part_only c.args.extent 0 _ old new c.in_ok-write_body.ensures.writes)

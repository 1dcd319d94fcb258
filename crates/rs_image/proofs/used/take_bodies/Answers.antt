use Rattle.std.proofs.Common.{arith}
use Rattle.rs_catalogue.specs.Catalogue.{records_of}
use Rattle.rs_image.proofs.Taken.{found_before, one_more, one_refused}
use Rattle.rs_image.proofs.used.take_bodies.Goals as goal

pub returns-then-not-take-clause-refused : goal.returns-then-not-take-clause-refused
returns-then-not-take-clause-refused c is =
    let records = records_of c.args.catalogue.now in
    one_refused (λ r. r.extent) c.args.used.now c.loop-i.used records c.loop-i.i c.at.result.now (found_before records c.loop-i.i c.at.result.now (omega arith) c.at.ensures)
    c.loop-i.invariant.taken (c.take.ensures.refused c.if-not-take.true)

pub loop-i-preserved : goal.loop-i-preserved
loop-i-preserved c =
    let records = records_of c.args.catalogue.now in
    record {
      few = omega arith;
      taken = one_more (λ r. r.extent) c.args.used.now c.loop-i.used c.take.new.used records c.loop-i.i c.at.result.now
          (found_before records c.loop-i.i c.at.result.now (omega arith) c.at.ensures) c.loop-i.invariant.taken (c.take.ensures.taken c.if-not-take.false);
    }

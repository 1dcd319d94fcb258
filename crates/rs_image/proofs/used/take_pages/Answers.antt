use Rattle.std.proofs.Common.{arith}
use Rattle.rs_image.proofs.Taken.{read_before, one_refused}
use Rattle.rs_image.proofs.used.take_pages.Goals as goal

pub returns-then-not-take-clause-refused : goal.returns-then-not-take-clause-refused
returns-then-not-take-clause-refused c is =
    one_refused (λ ref. ref.extent) c.args.used.now c.loop-i.used c.args.pages.now c.loop-i.i _ (read_before c.args.pages.now c.loop-i.i _ (omega arith) (omega arith))
    c.loop-i.invariant.taken (c.take.ensures.refused c.if-not-take.true)

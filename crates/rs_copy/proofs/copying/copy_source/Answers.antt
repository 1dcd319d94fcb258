use Rattle.std.proofs.Common.{inl, inr, arith}
use Rattle.rs_copy.proofs.Answered.{copies_written, copies_failed}
use Rattle.rs_copy.proofs.Handed.{err_is}
use Rattle.rs_copy.proofs.copying.copy_source.Goals as goal

pub returns-in_err-slots-clause-copies : goal.returns-in_err-slots-clause-copies
returns-in_err-slots-clause-copies g c =
    let fault = c.in_err-slots.field-0.0 in
    copies_failed c.args.old.now _ _ c.in_ok-layout.layout c.write_copy.new.layout fault c.from_residual-in_err-slots.result
    (λ small. absurd (omega (arith, small, c.if-size-lt-SMALLEST_DISK.false, c.size.ensures))) c.size-2.ensures c.contents-contents.ensures.contents c.in_ok-layout.ensures.laid_out
    (err_is c.from_residual-in_err-slots.result fault c.from_residual-in_err-slots.ensures.1) c.in_err-slots.ensures

pub returns-clause-copies : goal.returns-clause-copies
returns-clause-copies g c =
    copies_written c.args.old.now _ _ c.in_ok-layout.layout c.write_copy.new.layout c.in_ok-slots.slots
    (λ small. absurd (omega (arith, small, c.if-size-lt-SMALLEST_DISK.false, c.size.ensures))) c.size-2.ensures c.contents-contents.ensures.contents c.in_ok-layout.ensures.laid_out
    c.in_ok-slots.ensures

pub returns-clause-unread : goal.returns-clause-unread
returns-clause-unread g c is = elim is [ inl small ↦ absurd cc | inr full ↦ absurd cc ]

pub returns-clause-untouched : goal.returns-clause-untouched
returns-clause-untouched g c is = elim is [ inl small ↦ absurd cc | inr full ↦ absurd cc ]

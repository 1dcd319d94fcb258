-- A number that leaves 64 bits at a digit does not come back.
use Rattle.std.proofs.Common.{◌∙◌, arith}
use Rattle.rs_caps.proofs.Cutting.{number_not_below, goes_past, all_read}
use Rattle.rs_caps.proofs.documents.path_reading.read_digits.Goals as goal

pub returns-in_err-checked_mul : goal.returns-in_err-checked_mul
returns-in_err-checked_mul c =
    c.from_residual.ensures
    ∙ number_not_below 18446744073709551616 _ (goes_past 18446744073709551616 _ c.loop-digit.count c.args.digits.now c.loop-digit.digit-index c.loop-digit.invariant.0 c.loop-digit-test.true (omega (arith, c.in_err-checked_mul.ensures)))

pub returns-in_err-count : goal.returns-in_err-count
returns-in_err-count c =
    c.from_residual-in_err-count.ensures
    ∙ number_not_below 18446744073709551616 _ (goes_past 18446744073709551616 _ c.loop-digit.count c.args.digits.now c.loop-digit.digit-index c.loop-digit.invariant.0 c.loop-digit-test.true (omega (arith, c.in_err-count.ensures, c.in_ok-checked_mul.ensures, c.from.ensures)))

pub returns : goal.returns
returns c = all_read 18446744073709551616 c.loop-digit.count _ c.args.digits.now c.loop-digit.digit-index c.loop-digit.invariant.0 c.loop-digit-test.false c.loop-digit.invariant.1

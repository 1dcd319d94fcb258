use Rattle.std.proofs.Common.{◌≡◌, length, sym, ap, arith}
use Rattle.std.proofs.lemmas.Fmt.{decimal_digit}
use Rattle.rs_record.proofs.Digits.{length-decimal}
use Rattle.rs_record.proofs.decimal.count_digits.Goals as goal

pub returns-in-Some-clause-value : goal.returns-in-Some-clause-value
returns-in-Some-clause-value c = sym (length-decimal _ _ c.in-Some.ensures.power_le c.in-Some.ensures.next_power_gt c.ranges.number.fits)

pub returns-in-None-clause-value : goal.returns-in-None-clause-value
returns-in-None-clause-value c =
    let zero : c.args.number ≡ 0 = c.in-None.ensures.none in
    sym (ap length (decimal_digit c.args.number (omega arith)))

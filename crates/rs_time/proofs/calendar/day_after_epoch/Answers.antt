use Rattle.std.proofs.Common.{◌≡◌, pos, arith, FitsSigned, w64, ◌∙◌, ◌+ℤ◌, to_z-of_z, to_z}
use Rattle.jiff.specs.Words.{epoch_day, IsEpochDay}
use Rattle.jiff.proofs.SpanFacts.{signed_arith, date_add-days, can_add-days}
use Rattle.rs_time.proofs.Counting.{epoch_day_zero}
use Rattle.rs_time.proofs.calendar.day_after_epoch.Goals as goal

pub unreachable-requires : goal.unreachable-requires
unreachable-requires c =
    let epoch = c.date-epoch.result in
    let zero-day = epoch_day_zero epoch.year epoch.month epoch.day c.date-epoch.ensures in
    let fits : FitsSigned w64 (pos c.args.days) = omega (arith, signed_arith) in
    let is : to_z w64 c.args.days ≡ pos c.args.days = to_z-of_z fits in
    let can = can_add-days c.date-epoch.result _ c.days.result c.days.ensures in
    let within : IsEpochDay (epoch_day c.date-epoch.result +ℤ to_z w64 c.args.days) =
    rw (zero-day, is) (omega (arith, signed_arith)) in
    let never = c.in-Err.ensures.succeeds.1 (can.1 within) in
    cc never

pub returns : goal.returns
returns c =
    let epoch = c.date-epoch.result in
    let zero-day = epoch_day_zero epoch.year epoch.month epoch.day c.date-epoch.ensures in
    let fits : FitsSigned w64 (pos c.args.days) = omega (arith, signed_arith) in
    let is : to_z w64 c.args.days ≡ pos c.args.days = to_z-of_z fits in
    let moved = date_add-days c.date-epoch.result _ c.days.result c.days.ensures in
    c.in-Ok.ensures.value ∙ moved ∙ rw (zero-day, is) (omega (arith, signed_arith))

use Rattle.std.proofs.Common.{◌≡◌, ℤ, ℕ, pos, arith, FitsSigned, w8, w16, ◌∙◌, to_z-of_z, of_z, to_z, ap, unsigned_abs}
use Rattle.std.specs.Int.{Width}
use Rattle.std.proofs.lemmas.Int.{ints}
use Rattle.jiff_core.proofs.CalendarLemmas.{days_in_month_bounds}
use Rattle.jiff_core.proofs.SignedLemmas.{signed_arith}
use Rattle.rs_time.specs.Calendar.{date_of}
use Rattle.rs_time.proofs.Counting.{date_of_day, date_by_fields}
use Rattle.rs_time.proofs.calendar.civil_date.Goals as goal

-- a signed number that is a natural one is that after the cast to unsigned
cast : (w : Width) (z : ℤ) (n : ℕ) → FitsSigned w z → z ≡ pos n → unsigned_abs (to_z w (of_z w z)) ≡ n
cast w z n fits is = ap unsigned_abs (to_z-of_z fits ∙ is)

pub overflow_cast-result : goal.overflow_cast-result
overflow_cast-result c =
    let is = date_of_day c.day_after_epoch-date.result c.args.days c.requires c.day_after_epoch-date.ensures in
    let fits : FitsSigned w16 c.year.result = omega (arith, signed_arith, c.year.type_inv) in
    rw (to_z-of_z fits, c.year.ensures, is.0) (tt, omega (arith, ints, fits, is.0, c.year.ensures, c.year.type_inv))

pub returns : goal.returns
returns c =
    let d = c.day_after_epoch-date.result in
    let is = date_of_day d c.args.days c.requires c.day_after_epoch-date.ensures in
    date_by_fields _ (date_of c.args.days)
    (cast w16 c.year.result _ (omega (arith, signed_arith, c.year.type_inv)) (c.year.ensures ∙ is.0))
    (cast w8 c.month.result _ (omega (arith, signed_arith, c.month.type_inv)) (c.month.ensures ∙ ap pos is.1))
    (cast w8 c.day.result _ (omega (arith, signed_arith, days_in_month_bounds d.year d.month))
    (c.day.ensures ∙ ap pos is.2))

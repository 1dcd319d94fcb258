-- The date found by counting is the date that the library `jiff` has for the day.
use Rattle.std.proofs.Common.{◌≡◌, ℕ, zero, suc, ◌+◌, ◌-◌, ◌*◌, ◌/◌, ◌<◌, ◌≤◌, refl, sym, ap, ◌∙◌, arith, ℤ, pos, add-zero, zero-add, nat_lt, cond, Bool, true, false, inl, inr}
use Rattle.std.proofs.lemmas.Bool.{cases_lt}
use Rattle.std.proofs.lemmas.Bool.Decides.{nat_tests}
use Rattle.jiff_core.specs.Calendar.{day_count, days_from_civil}
use Rattle.jiff_core.specs.Date.{epoch_day}
use Rattle.jiff_core.specs.declared.civil.date.Date.{Date}
use Rattle.jiff_core.proofs.SignedLemmas.{signed_arith}
use Rattle.jiff_core.proofs.CalendarLemmas.{day_count-epoch, day_count-end, days_from_civil-day_count, day_count-next_year, day_count-next_month, day_count-day, day_count-day_of_year, days_of_months_all, days_in_year_bounds}
use Rattle.jiff_core.proofs.DateLemmas.{epoch_day_injective}
use Rattle.rs_time.specs.Calendar.{year_length, month_length, days_of, period_of, date_of, IsDateOf}
use Rattle.rs_time.specs.declared.calendar.CivilDate.{CivilDate}

-- a period and a day in it are those of day n, counted from the start of period i; the day lies within the
-- period, where one of `turns` periods more than i holds it
record Counts (length_of : ℕ → ℕ) (turns i n : ℕ) (p : ℕ × ℕ) : Type 0 where
  from : i ≤ p.0
  to : p.0 ≤ i + turns
  sum : days_of length_of i (p.0 - i) + p.1 ≡ n
  within : n < days_of length_of i (suc turns) → p.1 < length_of p.0

counts_here : (length_of : ℕ → ℕ) (turns i n : ℕ) → (n < days_of length_of i (suc turns) → n < length_of i)
    → Counts length_of turns i n (i, n)
unfolding days_of
counts_here length_of turns i n h =
    let here : i - i ≡ 0 = omega arith in
    let none : days_of length_of i 0 + n ≡ n = omega arith in
    record { from = omega arith; to = omega arith; sum = ap (λ k. days_of length_of i k + n) here ∙ none; within = h }

counts_next : (b : Bool) (length_of : ℕ → ℕ) (turns i n : ℕ) (p : ℕ × ℕ) → nat_lt n (length_of i) ≡ b
    → Counts length_of turns (i + 1) (n - length_of i) p → Counts length_of (suc turns) i n (cond b (i, n) p)
unfolding days_of
counts_next true length_of turns i n p e h =
    let low : n < length_of i = grind (arith, nat_tests) in
    counts_here length_of (suc turns) i n (λ _. low)
counts_next false length_of turns i n p e h =
    let past : length_of i ≤ n = grind (arith, nat_tests) in
    let from : i + 1 ≤ p.0 = h.from in
    let to : p.0 ≤ i + 1 + turns = h.to in
    let place : p.0 - i ≡ suc (p.0 - (i + 1)) = omega arith in
    let sum : days_of length_of (i + 1) (p.0 - (i + 1)) + p.1 ≡ n - length_of i = h.sum in
    record {
      from = omega arith;
      to = omega arith;
      sum = ap (λ j. days_of length_of i j + p.1) place ∙ omega arith;
      within = λ low. h.within (omega arith);
    }

counts : (length_of : ℕ → ℕ) (turns i n : ℕ) → Counts length_of turns i n (period_of length_of turns i n)
unfolding period_of days_of
counts length_of zero i n = counts_here length_of zero i n (λ low. omega arith)
counts length_of (suc turns) i n =
    counts_next (nat_lt n (length_of i)) length_of turns i n _ refl (counts length_of turns (i + 1) (n - length_of i))

-- the days of j years, by the library's count of days
years : (y j : ℕ) → days_of year_length y j + day_count (pos y) 1 1 ≡ day_count (pos (y + j)) 1 1
unfolding days_of
years y zero = rw (add-zero, zero-add) refl
years y (suc j) =
    let next : day_count (pos (y + 1)) 1 1 ≡ day_count (pos y) 1 1 + year_length y =
    day_count-next_year (pos y) (pos (y + 1)) (omega (arith, signed_arith)) (omega (arith, signed_arith)) in
    let place : y + 1 + j ≡ y + suc j = omega arith in
    let rest = years (y + 1) j ∙ ap (λ n. day_count (pos n) 1 1) place in
    omega (arith, rest)

-- and of j months
months : (y m j : ℕ) → 1 ≤ m
    → days_of (month_length y) m j + day_count (pos y) m 1 ≡ day_count (pos y) (m + j) 1
unfolding days_of
months y m zero h = rw (add-zero, zero-add) refl
months y m (suc j) h =
    let place : m + 1 + j ≡ m + suc j = omega arith in
    let rest = months y (m + 1) j (omega arith) ∙ ap (λ n. day_count (pos y) n 1) place in
    omega (arith, day_count-next_month (pos y) m h, rest)

long_years : (y j : ℕ) → 365 * j ≤ days_of year_length y j
unfolding days_of
long_years y zero = omega arith
long_years y (suc j) = omega (arith, days_in_year_bounds (pos y), long_years (y + 1) j)

twelve_months : (y : ℕ) → days_of (month_length y) 1 12 ≡ year_length y
twelve_months y =
    let thirteenth = day_count-day_of_year (pos y) 13 1 (omega arith) in
    omega (arith, months y 1 12 (omega arith), thirteenth, days_of_months_all (pos y))

more_years : (y j k : ℕ) → j ≤ k → days_of year_length y j ≤ days_of year_length y k
unfolding days_of
more_years y zero k h = omega arith
more_years y (suc j) zero h = absurd (omega arith)
more_years y (suc j) (suc k) h = omega (arith, more_years (y + 1) j k (omega arith))

-- year 10000 begins after day 2,932,896
year_below : (y n : ℕ) → days_of year_length 1970 (y - 1970) ≤ n → n ≤ 2932896 → y ≤ 9999
year_below y n h low =
    elim (cases_lt y 10000) [
      | inl before ↦ omega arith
      | inr late ↦
          let more = more_years 1970 8030 (y - 1970) (omega arith) in
          absurd (omega (arith, more, years 1970 8030, day_count-end, day_count-epoch))
    ]

dated : (n : ℕ) (p q : ℕ × ℕ) → n ≤ 2932896 → Counts year_length (n / 365) 1970 n p
    → Counts (month_length p.0) 11 1 p.1 q → IsDateOf n (record { year = p.0; month = q.0; day = q.1 + 1 })
dated n p q low years_passed months_passed =
    let in_year : p.1 < year_length p.0 = years_passed.within (omega (arith, long_years 1970 (suc (n / 365)))) in
    let in_month : q.1 < month_length p.0 q.0 = months_passed.within (omega (arith, twelve_months p.0)) in
    let days_before : days_of year_length 1970 (p.0 - 1970) + p.1 ≡ n = years_passed.sum in
    let days_in : days_of (month_length p.0) 1 (q.0 - 1) + q.1 ≡ p.1 = months_passed.sum in
    let last : q.0 ≤ 1 + 11 = months_passed.to in
    record {
      year_from = years_passed.from;
      year_to = year_below p.0 n (omega arith) low;
      month_from = months_passed.from;
      month_to = omega arith;
      day_from = omega arith;
      day_to = omega arith;
      before = omega arith;
    }

-- the date found by counting lies that many days after the first
pub date_is : (n : ℕ) → n ≤ 2932896 → IsDateOf n (date_of n)
unfolding date_of
date_is n low =
    let p : ℕ × ℕ = period_of year_length (n / 365) 1970 n in
    let q : ℕ × ℕ = period_of (month_length p.0) 11 1 p.1 in
    dated n p q low (counts year_length (n / 365) 1970 n) (counts (month_length p.0) 11 1 p.1)

days_from : (n : ℕ) (d : CivilDate) → IsDateOf n d → days_from_civil (pos d.year) d.month d.day ≡ pos n
days_from n d is =
    let year : 1970 + (d.year - 1970) ≡ d.year = omega (arith, is.year_from) in
    let month : 1 + (d.month - 1) ≡ d.month = omega (arith, is.month_from) in
    let first = years 1970 (d.year - 1970) ∙ ap (λ y. day_count (pos y) 1 1) year in
    let then = months d.year 1 (d.month - 1) (omega arith) ∙ ap (λ m. day_count (pos d.year) m 1) month in
    let day = day_count-day (pos d.year) d.month 1 d.day (omega arith) is.day_from in
    let here = days_from_civil-day_count (pos d.year) d.month d.day in
    omega (arith, signed_arith, is, first, then, day, here, day_count-epoch)

-- the library's date of a day number has the year, month and day found by counting
pub date_of_day : (d : Date) (n : ℕ) → n ≤ 2932896 → epoch_day d ≡ pos n
    → (d.year ≡ pos (date_of n).year) × (d.month ≡ (date_of n).month) × (d.day ≡ (date_of n).day)
date_of_day d n low e =
    let is = date_is n low in
    let counted : Date = record {
      year = pos (date_of n).year;
      month = (date_of n).month;
      day = (date_of n).day;
      year_in = (omega (arith, signed_arith, is.year_to), omega (arith, signed_arith, is.year_to));
      month_in = (is.month_from, is.month_to);
      day_in = (is.day_from, is.day_to);
    } in
    epoch_day_injective d counted (e ∙ sym (days_from n (date_of n) is))

-- the first day
pub epoch_day_zero : (y : ℤ) (m d : ℕ) → (y ≡ pos 1970) × (pos m ≡ pos 1) × (pos d ≡ pos 1)
    → days_from_civil y m d ≡ pos 0
epoch_day_zero y m d h =
    let month : m ≡ 1 = omega (arith, signed_arith, h.1) in
    let day : d ≡ 1 = omega (arith, signed_arith, h.2) in
    rw (h.0, month, day) (omega (arith, signed_arith, days_from_civil-day_count (pos 1970) 1 1, day_count-epoch))

-- a date is given by its year, month and day
pub date_by_fields : (a b : CivilDate) → a.year ≡ b.year → a.month ≡ b.month → a.day ≡ b.day → a ≡ b
date_by_fields a b year month day = λ i. record { year = year i; month = month i; day = day i }

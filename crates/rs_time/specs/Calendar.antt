-- The Gregorian calendar from 1970 on, by counting days.
use Rattle.std.specs.Prelude.{◌≡◌, ◌≤◌, ℕ, zero, suc, ◌+◌, ◌-◌, ◌/◌, ◌%◌, Bool, not, ◌&&◌, ◌||◌, ◌==◌, nat_lt, if◌then◌else◌}
use Rattle.rs_time.specs.declared.calendar.CivilDate.{CivilDate}

-- every fourth year is a leap year, but only every fourth century year
abbrev pub is_leap : ℕ → Bool
is_leap year = (year % 4 == 0) && (not (year % 100 == 0) || (year % 400 == 0))

-- the days of a year
abbrev pub year_length : ℕ → ℕ
year_length year = if is_leap year then 366 else 365

-- the days of a month: thirty have April, June, September and November
abbrev pub month_length : ℕ → ℕ → ℕ
month_length year month =
    if month == 2 then (if is_leap year then 29 else 28)
    else (if (month == 4) || (month == 6) || (month == 9) || (month == 11) then 30 else 31)

-- the days of `n` periods of given lengths, from period i on
unfoldable pub days_of : (ℕ → ℕ) → ℕ → ℕ → ℕ
days_of length_of i zero = 0
days_of length_of i (suc n) = length_of i + days_of length_of (i + 1) n

-- the period in which day n lies, counted from 0 at the start of period i, and its day there,
-- counted from 0 too; it passes `turns` periods at most
unfoldable pub period_of : (ℕ → ℕ) → ℕ → ℕ → ℕ → ℕ × ℕ
period_of length_of zero i n = (i, n)
period_of length_of (suc turns) i n =
    if nat_lt n (length_of i) then (i, n) else period_of length_of turns (i + 1) (n - length_of i)

-- the date of day n, where day 0 is 1 January 1970: no year is shorter than 365 days
unfoldable pub date_of : ℕ → CivilDate
date_of n =
    let in_year = period_of year_length (n / 365) 1970 n in
    let in_month = period_of (month_length in_year.0) 11 1 in_year.1 in
    record { year = in_year.0; month = in_month.0; day = in_month.1 + 1 }

-- the number of days from 1 January 1970 to the date: the days of the whole years before it, of the whole months of its
-- year, and of its month
abbrev pub days_before : CivilDate → ℕ
days_before d =
    days_of year_length 1970 (d.year - 1970) + days_of (month_length d.year) 1 (d.month - 1) + (d.day - 1)

-- a date of the calendar, up to the year 9999, that lies n days after 1 January 1970
pub record IsDateOf (n : ℕ) (d : CivilDate) : Type 0 where
  pub year_from : 1970 ≤ d.year
  pub year_to : d.year ≤ 9999
  pub month_from : 1 ≤ d.month
  pub month_to : d.month ≤ 12
  pub day_from : 1 ≤ d.day
  pub day_to : d.day ≤ month_length d.year d.month
  pub before : days_before d ≡ n

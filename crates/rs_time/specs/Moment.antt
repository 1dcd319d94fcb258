-- Moments: whole milliseconds from 1970-01-01T00:00:00.000Z to 9999-12-31T23:59:59.999Z, and their text,
-- which is a complete date plus hours, minutes, seconds and a fraction of a second of W3C Datetime, in UTC.
use Rattle.std.specs.Prelude.{ℕ, ◌+◌, ◌/◌, ◌%◌, ◌≤◌, max, nat_lt, nat_le, nat_eq, Bool, ◌&&◌, ◌||◌, codes, if◌then◌else◌, List, [], ◌∷◌, ◌++◌, Option, Some, None}
use Rattle.std.specs.List.{list_any}
use Rattle.rs_time.specs.declared.calendar.CivilDate.{CivilDate}
use Rattle.rs_time.specs.Calendar.{date_of}

-- 9999-12-31T23:59:59.999Z
abbrev pub greatest : ℕ
greatest = 253402300799999

-- a number of milliseconds is a moment
abbrev pub IsMoment : ℕ → Type 0
IsMoment ms = ms ≤ greatest

-- the moment of these milliseconds, if they are one
abbrev pub moment_of : ℕ → Option ℕ
moment_of ms = if nat_le ms greatest then Some ms else None

-- the first moment after `last` that is not before `now`; no moment is after the greatest
abbrev pub moment_after : ℕ → ℕ → Option ℕ
moment_after last now = if nat_lt last greatest then Some (max now (last + 1)) else None

-- the last decimal digit of a number; `0` is byte 48
abbrev pub last_digit : ℕ → ℕ
last_digit n = 48 + n % 10

-- the last two
abbrev pub two_digits : ℕ → List ℕ
two_digits n = last_digit (n / 10) ∷ last_digit n ∷ []

-- the last three
abbrev pub three_digits : ℕ → List ℕ
three_digits n = last_digit (n / 100) ∷ two_digits n

-- the last four
abbrev pub four_digits : ℕ → List ℕ
four_digits n = last_digit (n / 1000) ∷ three_digits n

-- YYYY-MM-DD
abbrev pub date_text : CivilDate → List ℕ
date_text d = four_digits d.year ++ codes "-" ++ two_digits d.month ++ codes "-" ++ two_digits d.day

-- hh:mm:ss.mmm of a millisecond of the day
abbrev pub time_text : ℕ → List ℕ
time_text ms =
    two_digits (ms / 3600000) ++ codes ":" ++ two_digits (ms / 60000 % 60) ++ codes ":" ++ two_digits (ms / 1000 % 60)
    ++ codes "." ++ three_digits (ms % 1000)

-- YYYY-MM-DDThh:mm:ss.mmmZ
unfoldable pub moment_text : ℕ → List ℕ
moment_text t = date_text (date_of (t / 86400000)) ++ codes "T" ++ time_text (t % 86400000) ++ codes "Z"

-- a digit, or one of `-`, `T`, `:`, `.` and `Z`
abbrev pub is_moment_byte : ℕ → Bool
is_moment_byte c = (nat_le 48 c && nat_le c 57) || list_any (nat_eq c) (codes "-T:.Z")

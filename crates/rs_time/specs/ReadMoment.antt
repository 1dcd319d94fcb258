-- Reading a moment's text.
use Rattle.std.specs.Prelude.{ℕ, ◌+◌, ◌-◌, ◌*◌, Bool, ◌&&◌, nat_eq, nat_le, if◌then◌else◌, List, [], ◌∷◌, take, drop, Option, Some, None}
use Rattle.std.specs.Cmp.Lexicographic.{pointwise}
use Rattle.rs_time.specs.declared.calendar.CivilDate.{CivilDate}
use Rattle.rs_time.specs.Calendar.{days_before}
use Rattle.rs_time.specs.Moment.{greatest, moment_text}
unfoldable pub use Rattle.rs_time.specs.Calendar.{days_of}

-- both texts have the same bytes
abbrev pub same_bytes : List ℕ → List ℕ → Bool
same_bytes a b = pointwise nat_eq a b

-- the number of the digits of n and then these
abbrev pub number_after : ℕ → List ℕ → ℕ
number_after n [] = n
number_after n (c ∷ cs) = number_after (10 * n + (c - 48)) cs

-- the number of the `count` digits from this place on
abbrev pub digits_at : ℕ → ℕ → List ℕ → ℕ
digits_at from count text = number_after 0 (take count (drop from text))

-- the milliseconds of the date and time that the digits give
unfoldable pub moment_digits : List ℕ → ℕ
moment_digits text =
    let date : CivilDate = record { year = digits_at 0 4 text; month = digits_at 5 2 text; day = digits_at 8 2 text } in
    days_before date * 86400000 + digits_at 11 2 text * 3600000 + digits_at 14 2 text * 60000
    + digits_at 17 2 text * 1000 + digits_at 20 3 text

-- the moment that has this text, if one has
unfoldable pub read_moment : List ℕ → Option ℕ
read_moment text =
    let t = moment_digits text in
    if nat_le t greatest && same_bytes (moment_text t) text then Some t else None

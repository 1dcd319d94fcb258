-- Decimal numbers, as lines, arguments and heads write them.
use Rattle.std.specs.Prelude.{ℕ, ◌&&◌, nat_le, if◌then◌else◌, List, length, Option, Some, None}
use Rattle.std.specs.List.{list_all}
use Rattle.std.specs.Char.{is_ascii_digit}
use Rattle.std.specs.Str.Parse.{digits_value}

-- the number of 1 to `most` decimal digits
unfoldable pub number_in : ℕ → List ℕ → Option ℕ
number_in most text =
    if nat_le 1 (length text) && nat_le (length text) most && list_all is_ascii_digit text then Some (digits_value 10 text) else None

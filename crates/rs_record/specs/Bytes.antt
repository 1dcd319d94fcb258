-- Kinds of bytes.
use Rattle.std.specs.Prelude.{ℕ, Bool, ◌&&◌, ◌||◌, ◌==◌, nat_le, List}
use Rattle.std.specs.List.{list_any}

-- a byte from the first one to the second one
abbrev pub is_between : ℕ → ℕ → ℕ → Bool
is_between low high c = nat_le low c && nat_le c high

-- `0` to `9`
abbrev pub is_digit : ℕ → Bool
is_digit = is_between 48 57

-- `A` to `Z` and `a` to `z`
abbrev pub is_letter : ℕ → Bool
is_letter c = is_between 65 90 c || is_between 97 122 c

-- a hexadecimal digit of either case
abbrev pub is_hex : ℕ → Bool
is_hex c = is_digit c || is_between 65 70 c || is_between 97 102 c

-- one of these bytes
abbrev pub is_one_of : List ℕ → ℕ → Bool
is_one_of xs c = list_any (λ x. c == x) xs

-- Lawful names: segments of RFC 3986 joined by `/`, at most 240 bytes in all.
use Rattle.std.specs.Prelude.{ℕ, Bool, true, false, not, ◌&&◌, ◌||◌, ◌==◌, nat_le, List, [], ◌∷◌, length, codes}
use Rattle.std.specs.List.{list_all, slice_split}
use Rattle.rs_record.specs.Bytes.{is_digit, is_letter, is_hex, is_one_of}

-- a byte that a segment may have as it is: unreserved, sub-delims, `:` and `@` (RFC 3986, 2.3, 2.2 and 3.3)
abbrev pub is_plain : ℕ → Bool
is_plain c = is_letter c || is_digit c || is_one_of (codes "-._~!$&'()*+,;=:@") c

-- the bytes begin with two hexadecimal digits
abbrev pub two_hex : List ℕ → Bool
two_hex [] = false
two_hex (a ∷ []) = false
two_hex (a ∷ b ∷ rest) = is_hex a && is_hex b

-- All bytes are plain, or a `%` before two hexadecimal digits, which are plain too.
abbrev pub are_pchars : List ℕ → Bool
are_pchars [] = true
are_pchars (c ∷ rest) = (is_plain c || ((c == 37) && two_hex rest)) && are_pchars rest

-- the empty text, `.` or `..`
abbrev pub is_dots : List ℕ → Bool
is_dots [] = true
is_dots (a ∷ []) = a == 46
is_dots (a ∷ b ∷ []) = (a == 46) && (b == 46)
is_dots (a ∷ b ∷ c ∷ rest) = false

-- a segment of a name
abbrev pub is_segment : List ℕ → Bool
is_segment bytes = are_pchars bytes && not (is_dots bytes)

-- the parts between the `/`
abbrev pub segments : List ℕ → List (List ℕ)
segments bytes = slice_split (λ c. c == 47) bytes

-- a name of a resource
abbrev pub is_name : List ℕ → Bool
is_name bytes = nat_le (length bytes) 240 && list_all is_segment (segments bytes)

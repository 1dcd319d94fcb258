-- Lawful media types: 3 to 100 bytes of printable ASCII that begin with a token of RFC 9110, `/` and a token,
-- and do not end in a space.
use Rattle.std.specs.Prelude.{ℕ, Bool, false, not, ◌&&◌, ◌||◌, ◌==◌, nat_eq, nat_le, if◌then◌else◌, List, [], ◌∷◌, length, codes}
use Rattle.std.specs.List.{list_all, ends_with}
use Rattle.rs_record.specs.Bytes.{is_between, is_digit, is_letter, is_one_of}

-- a byte of a token (RFC 9110, 5.6.2)
abbrev pub is_tchar : ℕ → Bool
is_tchar c = is_letter c || is_digit c || is_one_of (codes "!#$%&'*+-.^_`|~") c

-- the bytes begin with a token
abbrev pub begins_token : List ℕ → Bool
begins_token [] = false
begins_token (c ∷ rest) = is_tchar c

-- the rest after the bytes of a token
abbrev pub after_token : List ℕ → List ℕ
after_token [] = []
after_token (c ∷ rest) = if is_tchar c then after_token rest else c ∷ rest

-- the bytes begin with `/` and a token
abbrev pub begins_subtype : List ℕ → Bool
begins_subtype [] = false
begins_subtype (c ∷ rest) = (c == 47) && begins_token rest

-- a media type with its parameters
abbrev pub is_media_type : List ℕ → Bool
is_media_type bytes =
    nat_le 3 (length bytes) && nat_le (length bytes) 100 && list_all (is_between 32 126) bytes
    && begins_token bytes && begins_subtype (after_token bytes) && not (ends_with nat_eq bytes (codes " "))

-- The fields of a line.
use Rattle.std.specs.Prelude.{ℕ, zero, suc, ◌==◌, Bool, List, [], ◌∷◌, drop}
use Rattle.std.specs.List.{before_first, position_or_len}

-- a field ends at a space (byte 32)
abbrev pub is_space : ℕ → Bool
is_space c = c == 32

-- the bytes before the first space
abbrev pub first_field : List ℕ → List ℕ
first_field bytes = before_first is_space bytes

-- the rest, from the first space on
abbrev pub after_field : List ℕ → List ℕ
after_field bytes = drop (position_or_len is_space bytes) bytes

-- the bytes after a space, cut this way; no field if there is no space
abbrev pub after_space : (List ℕ → List (List ℕ)) → List ℕ → List (List ℕ)
after_space cut [] = []
after_space cut (space ∷ bytes) = cut bytes

-- the bytes cut at their first spaces, at most this many: the last field is the rest, with all its spaces
unfoldable pub fields : ℕ → List ℕ → List (List ℕ)
fields zero bytes = bytes ∷ []
fields (suc spaces) bytes = first_field bytes ∷ after_space (fields spaces) (after_field bytes)

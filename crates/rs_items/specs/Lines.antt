-- The lines that hold items.
use Rattle.std.specs.Prelude.{◌==◌, slice_index, ℕ, ◌-◌, List, [], ◌∷◌, length, take, if◌then◌else◌}

-- without the carriage return (byte 13) at its end, if there is one
abbrev pub cut_return : List ℕ → List ℕ
cut_return raw = if slice_index raw (length raw - 1) == 13 then take (length raw - 1) raw else raw

-- the line that no line feed ends; no line follows a last line feed, and an empty input has no line
abbrev pub last_line : List ℕ → List (List ℕ)
last_line [] = []
last_line (b ∷ bytes) = (b ∷ bytes) ∷ []

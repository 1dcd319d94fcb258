-- Bytes that no lawful value has.
use Rattle.std.specs.Prelude.{ℕ, Bool, not, ◌&&◌, ◌==◌, List}
use Rattle.std.specs.List.{list_all}
-- no byte of a text is the mark
pub use Rattle.rs_fixity.specs.Cut.{lacks}

-- no line feed, no `"` and no `<`
abbrev pub is_clean : ℕ → Bool
is_clean c = not (c == 10) && not (c == 34) && not (c == 60)

-- no byte is a line feed, `"` or `<`
abbrev pub clean : List ℕ → Bool
clean text = list_all is_clean text

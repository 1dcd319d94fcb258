-- The lines of a script.
use Rattle.std.specs.Prelude.{◌≡◌, ◌≢◌, ℕ, List, [], ◌∷◌, ◌++◌, All, flat_map, map, if◌then◌else◌, Bool}
use Rattle.rs_items.specs.Lines.{cut_return, last_line}

-- the longest line, in bytes, without its end
abbrev pub line_limit : ℕ
line_limit = 33600000

-- these bytes have no line feed (byte 10)
abbrev pub HasNoBreak : List ℕ → Type 0
HasNoBreak bytes = All (λ b. b ≢ 10) bytes

-- the bytes of a line, with the line feed that ends it
abbrev pub with_break : List ℕ → List ℕ
with_break raw = raw ++ 10 ∷ []

-- the input is these lines, each with its line feed, and then bytes without a line feed
pub record Splits (input : List ℕ) (raws : List (List ℕ)) (rest : List ℕ) : Type 0 where
  pub whole : input ≡ flat_map with_break raws ++ rest
  pub each : All HasNoBreak raws
  pub partial : HasNoBreak rest

-- the lines that a script answers: a carriage return right before a line feed is cut off
abbrev pub script_lines : List (List ℕ) → List ℕ → List (List ℕ)
script_lines raws rest = map cut_return raws ++ last_line rest

-- the line of these bytes, which a line feed ended, or the end of the input
abbrev pub line_of : Bool → List ℕ → List ℕ
line_of has_break raw = if has_break then cut_return raw else raw

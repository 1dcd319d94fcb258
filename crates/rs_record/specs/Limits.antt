-- The limits of the content of a source.
use Rattle.std.specs.Prelude.{ℕ}

-- the greatest number of bytes of a body
abbrev pub longest_body : ℕ
longest_body = 16777216

-- the most resources that a source holds, the most changes that it keeps, and the most items that a page of them has
abbrev pub most_items : ℕ
most_items = 50000

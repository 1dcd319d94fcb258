-- Item limits.
use Rattle.std.specs.Prelude.{ℕ, ◌≤◌, nat_le, ◌&&◌, Option, Some, None, if◌then◌else◌}

-- n items are a limit: 2 to 4,000
pub record IsLimit (n : ℕ) : Type 0 where
  pub low : 2 ≤ n
  pub high : n ≤ 4000

-- the limit of n items, if they are one
abbrev pub limit_of : ℕ → Option ℕ
limit_of n = if nat_le 2 n && nat_le n 4000 then Some n else None

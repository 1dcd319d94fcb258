-- Lawful views, and small texts.
use Rattle.std.specs.Prelude.{ℕ, ◌<◌, ◌^◌, List, length, IsTrue}
use Rattle.std.specs.List.{All}
use Rattle.rs_record.specs.Base.{is_base}
use Rattle.rs_record.specs.Lawful.{IsLawfulRecord, IsLawfulChange}
use Rattle.rs_lists.specs.Shown.{Shown, IsShown}

-- a view with a lawful base, a publication number of 64 bits, lawful records and lawful changes
pub record IsLawfulShown (s : Shown) : Type 0 where
  pub shown : IsShown s
  pub base : IsTrue (is_base s.base)
  pub number : s.number < 2 ^ 64
  pub published : All IsLawfulRecord s.published
  pub changes : All IsLawfulChange s.changes

-- a text of fewer bytes than 10 MiB
abbrev pub IsSmall : List ℕ → Type 0
IsSmall text = length text < 10485760

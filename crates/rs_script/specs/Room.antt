-- The statements that take memory, which may be refused.
use Rattle.std.specs.Prelude.{◌≡◌, ◌⊎◌, ℕ, ◌≤◌, List, ◌∷◌, ◌++◌, length, IsOk, IsTrue}
use Rattle.rs_script.specs.Requests.{begins_item}
use Rattle.rs_script.specs.Statements.{items_of_group}

-- a line takes memory from 9 bytes on, and for the name, the type and the bytes of an item
abbrev pub TakesRoom : List ℕ → Type 0
TakesRoom line = (9 ≤ length line) ⊎ IsTrue (begins_item line)

-- one of these lines of a group takes memory, and all lines before it are items
pub record GroupTakesRoom (lines : List (List ℕ)) : Type 0 where
  pub before : List (List ℕ)
  pub line : List ℕ
  pub after : List (List ℕ)
  pub lines_are : lines ≡ before ++ line ∷ after
  pub items : IsOk (items_of_group before)
  pub takes : TakesRoom line

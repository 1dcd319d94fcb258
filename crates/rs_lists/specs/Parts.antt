-- The properties of the parts of a list.
use Rattle.std.specs.Prelude.{◌≡◌, ℕ, ◌+◌, ◌<◌, ◌≤◌, List, [], ◌∷◌, ◌++◌, length}
use Rattle.rs_lists.specs.Chunks.{parts_of, part_at}
use Rattle.rs_lists.specs.Text.{numbers_from}

-- the parts of these numbers, one after another
abbrev pub parts_joined : {A : Type 0} → ℕ → List A → List ℕ → List A
parts_joined limit items [] = []
parts_joined limit items (k ∷ numbers) = part_at k limit items ++ parts_joined limit items numbers

-- no part is empty or has more than `limit` items, all but the last have exactly `limit`, and joined they are the list
pub record AreChunks {A : Type 0} (limit : ℕ) (items : List A) : Type 0 where
  pub some : (k : ℕ) → k < parts_of (length items) limit → 0 < length (part_at k limit items)
  pub most : (k : ℕ) → length (part_at k limit items) ≤ limit
  pub full : (k : ℕ) → k + 1 < parts_of (length items) limit → length (part_at k limit items) ≡ limit
  pub joined : parts_joined limit items (numbers_from 0 (parts_of (length items) limit)) ≡ items

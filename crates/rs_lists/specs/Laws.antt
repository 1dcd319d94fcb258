-- Consequences of the definitions of parts alone.
use Rattle.std.specs.Prelude.{ℕ, ◌<◌, List}
use Rattle.rs_lists.specs.Parts.{AreChunks}

-- The parts of a list are that list, cut into chunks by the limit.
abbrev pub PartsAreChunks : Type 0 → Type 0
PartsAreChunks A = (limit : ℕ) (items : List A) → 0 < limit → AreChunks limit items

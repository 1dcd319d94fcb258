use Rattle.std.proofs.Common.{ℕ, ◌≡◌, ◌*◌, ◌<◌, ◌≤◌}
use Rattle.rs_extent.specs.Words.{bit_of}
use Rattle.rs_extent.proofs.words.all_set.Given as goal

abbrev pub invariant-loop-i : goal.invariant-loop-i
invariant-loop-i l = (place : ℕ) → l.first ≤ place → place < l.end → place < 64 * l.i → bit_of l.words place ≡ 1

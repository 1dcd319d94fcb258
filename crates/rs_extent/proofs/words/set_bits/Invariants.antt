use Rattle.std.proofs.Common.{ℕ, ◌≡◌, ◌*◌, ◌<◌, ◌≤◌, cond}
use Rattle.rs_extent.specs.Words.{bit_of}
use Rattle.rs_extent.proofs.words.set_bits.Given as goal

abbrev pub invariant-loop-i : goal.invariant-loop-i
invariant-loop-i l = record {
  within : (place : ℕ) → l.first ≤ place → place < l.end → place < 64 * l.i → bit_of l.words place ≡ cond l.value 1 0;
  before : (place : ℕ) → place < l.first → bit_of l.words place ≡ bit_of l.initial.words place;
  after : (place : ℕ) → l.end ≤ place → bit_of l.words place ≡ bit_of l.initial.words place;
  ahead : (place : ℕ) → 64 * l.i ≤ place → bit_of l.words place ≡ bit_of l.initial.words place;
}

use Rattle.std.proofs.Common.{ℕ, ◌≡◌, ◌<◌, ◌≤◌, get_or}
use Rattle.rs_extent.proofs.words.skip_zeros.Given as goal

abbrev pub invariant-loop : goal.invariant-loop
invariant-loop l = (i : ℕ) → l.from ≤ i → i < l.at → get_or l.words i 0 ≡ 0

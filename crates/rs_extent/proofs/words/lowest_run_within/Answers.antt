use Rattle.std.proofs.Common.{◌∙◌, ap, ℕ, ◌+◌, arith}
use Rattle.std.specs.Int.{bit_at, w64}
use Rattle.std.proofs.lemmas.Nat.Bits.{bit_at-zero, bit_at_above, bit_at-trailing_zeros}
use Rattle.rs_extent.proofs.words.lowest_run_within.Goals as goal

pub returns-then-n-gt64 : goal.returns-then-n-gt64
returns-then-n-gt64 c first run =
    let set = run (first + 64) (omega arith) (omega arith) in
    let none = bit_at_above c.args.word 64 (first + 64) (omega arith) (omega arith) in
    absurd (omega arith)

pub returns-then-starts-eq0 : goal.returns-then-starts-eq0
returns-then-starts-eq0 c first run =
    let set = (c.run_starts-starts.ensures first).1 run in
    let none = ap (λ (n : ℕ). bit_at n first) c.if-starts-eq0.true ∙ bit_at-zero first in
    absurd (omega arith)

pub returns-else-starts-eq0 : goal.returns-else-starts-eq0
returns-else-starts-eq0 c =
    let lowest = bit_at-trailing_zeros w64 c.run_starts-starts.result (omega arith) (omega arith) in
    record {
      is_run = (c.run_starts-starts.ensures _).0 lowest.1;
      lowest = λ lower lt run.
          let set = (c.run_starts-starts.ensures lower).1 run in
          let none = lowest.2 lower lt in
          absurd (omega arith);
    }

use Rattle.std.proofs.Common.{◌≡◌, arith, sym, subst, ℕ}
use Rattle.std.specs.Int.{bit_at}
use Rattle.std.proofs.lemmas.Nat.Bits.{bit_at-zero}
use Rattle.rs_extent.proofs.Bits.{longer_found, longer_all}
use Rattle.rs_extent.proofs.words.run_starts.Goals as goal

pub loop-starts-preserved : goal.loop-starts-preserved
loop-starts-preserved c = record {
  some = omega arith;
  most = omega arith;
  found = longer_found c.args.word c.loop-starts.starts c.loop-starts.length c.min-step.result (omega arith) c.loop-starts.invariant.found;
  all = longer_all c.args.word c.loop-starts.starts c.loop-starts.length c.min-step.result c.loop-starts.invariant.all;
}

pub returns-after-loop-starts : goal.returns-after-loop-starts
returns-after-loop-starts c first =
    let none : bit_at c.loop-starts.starts first ≡ 0 = subst (λ (n : ℕ). bit_at n first ≡ 0) (sym c.loop-starts-test.false) (bit_at-zero first) in
    (λ set. absurd (omega arith), λ run. c.loop-starts.invariant.all first (λ place from until. run place from (omega arith)))

pub returns-else-length-n : goal.returns-else-length-n
returns-else-length-n c first = (
  λ set place from until. c.loop-starts.invariant.found first set place from (omega arith),
  λ run. c.loop-starts.invariant.all first (λ place from until. run place from (omega arith)),
)

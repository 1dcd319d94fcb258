use Rattle.std.proofs.Common.{◌-◌, ◌/◌, inl, inr, arith}
use Rattle.std.proofs.lemmas.Bool.{cases_lt}
use Rattle.rs_extent.proofs.Blocks.{run_on_disk}
use Rattle.rs_extent.proofs.Bitmaps.{found_run}
use Rattle.rs_extent.proofs.used.Used.longest_free.Goals as goal

pub loop-served-init : goal.loop-served-init
loop-served-init c = record {
  some = (0, λ b from until. absurd (omega arith));
  most = λ first n run. elim (cases_lt 0 n) [
    | inl some ↦ let inside = run_on_disk c.args.self.now first n run some in omega arith
    | inr none ↦ omega arith
  ];
  order = omega arith;
}

pub loop-served-preserved-then-is_some : goal.loop-served-preserved-then-is_some
loop-served-preserved-then-is_some c = record {
  some = found_run c.find.result c.args.self.now (c.loop-served.most - (c.loop-served.most - c.loop-served.served) / 2) _ c.find.ensures c.if-is_some.ensures;
  most = c.loop-served.invariant.most;
  order = omega arith;
}

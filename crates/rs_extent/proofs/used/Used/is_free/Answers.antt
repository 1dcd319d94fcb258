use Rattle.std.proofs.Common.{◌+◌, sym, subst, ap, ℕ, List, length, arith}
use Rattle.std.proofs.lemmas.Bool.{leb-true}
use Rattle.rs_extent.specs.Words.{bit_of, IsSetRun}
use Rattle.rs_extent.proofs.Blocks.{run_on_disk}
use Rattle.rs_extent.proofs.Bitmaps.{length-used, bits_run, blocks_run}
use Rattle.rs_extent.proofs.used.Used.is_free.Goals as goal

pub all_set-requires-clause-room : goal.all_set-requires-clause-room
all_set-requires-clause-room c = omega (arith, length-used _ _ _ c.self.view_is, c.self.invariant.covers, ap (λ (l : List ℕ). length l) c.deref.ensures.value)

pub returns-then-end-blocks : goal.returns-then-end-blocks
returns-then-end-blocks c = (
  λ yes.
      blocks_run _ _ _ _ c.args.extent.first c.args.extent.blocks c.self.invariant c.self.view_is
      (subst (λ (l : List ℕ). IsSetRun (bit_of l) c.args.extent.first c.args.extent.blocks) c.deref.ensures.value (λ b from until. c.all_set.ensures.0 yes b from (omega arith))),
  λ free.
      let run = bits_run _ _ _ _ c.args.extent.first c.args.extent.blocks c.self.invariant c.self.view_is free in
      let seen = subst (λ (l : List ℕ). IsSetRun (bit_of l) c.args.extent.first c.args.extent.blocks) (sym c.deref.ensures.value) run in
      c.all_set.ensures.1 (λ b from until. seen b from (omega arith)),
)

pub returns-else-end-blocks : goal.returns-else-end-blocks
returns-else-end-blocks c = (
  λ yes. let fits = leb-true (c.args.extent.first + c.args.extent.blocks) c.blocks-2.result yes in absurd (omega arith),
  λ free. let fits = run_on_disk c.args.self.now c.args.extent.first c.args.extent.blocks free (omega arith) in absurd (omega arith),
)

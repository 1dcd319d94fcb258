use Rattle.std.proofs.Common.{ℕ, ◌+◌, ◌≤◌, nat_le, IsTrue, arith, subst, sym}
use Rattle.std.proofs.lemmas.Bool.Decides.{nat_tests}
use Rattle.rs_image.proofs.Found.{ends_inside, low_inside, high_inside}
use Rattle.rs_image.specs.Reach.{blocks_of_disk}
use Rattle.rs_image.proofs.placed.is_inside.Goals as goal

le_is : (m n : ℕ) → IsTrue (nat_le m n) → m ≤ n
le_is m n is = grind (arith, nat_tests)

le_true : (m n : ℕ) → m ≤ n → IsTrue (nat_le m n)
le_true m n le = grind (arith, nat_tests)

pub returns-then-extent-ge2 : goal.returns-then-extent-ge2
returns-then-extent-ge2 c = (
  (λ fits. ends_inside c.args.extent (blocks_of_disk c.args.size) c.if-extent-ge2.true
      (subst (λ (n : ℕ). c.args.extent.first + c.args.extent.blocks ≤ n) c.block_count.ensures
      (le_is (c.args.extent.first + c.args.extent.blocks) c.block_count.result fits))),
  (λ inside. le_true (c.args.extent.first + c.args.extent.blocks) c.block_count.result
      (subst (λ (n : ℕ). c.args.extent.first + c.args.extent.blocks ≤ n) (sym c.block_count.ensures)
      (high_inside c.args.extent (blocks_of_disk c.args.size) (omega (arith, c.if-extent-eq0.false)) inside))),
)

pub returns-else-extent-ge2 : goal.returns-else-extent-ge2
returns-else-extent-ge2 c = (
  (λ low. absurd (omega (arith, c.if-extent-ge2.false, le_is 2 c.args.extent.first low))),
  (λ inside. le_true 2 c.args.extent.first (low_inside c.args.extent (blocks_of_disk c.args.size) (omega (arith, c.if-extent-eq0.false)) inside)),
)

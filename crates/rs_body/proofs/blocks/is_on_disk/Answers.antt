use Rattle.std.proofs.Common.{◌+◌, ◌*◌, ◌<◌, ◌≤◌, ℕ, nat_le, IsTrue, arith}
use Rattle.std.proofs.lemmas.Bool.Decides.{nat_tests}
use Rattle.rs_body.proofs.KeptBlocks.{has_room}
use Rattle.rs_body.proofs.FromBelow.{within_is}
use Rattle.rs_body.proofs.blocks.is_on_disk.Goals as goal

le_is : (m n : ℕ) → IsTrue (nat_le m n) → m ≤ n
le_is m n is = grind (arith, nat_tests)

le_true : (m n : ℕ) → m ≤ n → IsTrue (nat_le m n)
le_true m n le = grind (arith, nat_tests)

pub returns-else-extent-eq0 : goal.returns-else-extent-eq0
returns-else-extent-eq0 c = (
  (λ fits b is. let end = le_is (c.offset_of.result + c.args.extent.blocks * 512) c.args.size fits in
      let inside = within_is c.args.extent b is in
      omega (arith, c.offset_of.ensures, end, inside.1)),
  (λ inside. let some : 0 < c.args.extent.blocks = omega (arith, c.if-extent-eq0.false) in
      let room = has_room c.args.extent (512 * c.args.extent.blocks) c.args.size (omega (arith, some)) (omega arith) inside in
      le_true (c.offset_of.result + c.args.extent.blocks * 512) c.args.size (omega (arith, c.offset_of.ensures, room))),
)

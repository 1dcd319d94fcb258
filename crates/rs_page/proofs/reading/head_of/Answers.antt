use Rattle.std.proofs.Common.{refl, arith}
use Rattle.rs_page.proofs.OneList.{head}
use Rattle.rs_page.proofs.reading.head_of.Goals as goal

pub returns : goal.returns
returns c = (
  c.from_be_bytes.type_inv,
  head c.in_ok-kind.kind.now c.from_be_bytes.result c.args.bytes.now c.in_ok-kind.rest.now c.in_ok-count.count.now c.in_ok-count.rest.now (λ i. omega (arith, c.type_inv.bytes i))
      c.in_ok-kind.ensures.cases.0 c.in_ok-count.ensures.cases.0 c.in_ok-count.ensures.cases.1 (c.in_ok-count.ensures.variant.0 refl) c.from_be_bytes.ensures,
)

use Rattle.std.proofs.Common.{bit_and}
use Rattle.std.proofs.lemmas.Bool.{eqb-true, eq-eqb}
use Rattle.rs_extent.proofs.Bits.{has_mask}
use Rattle.rs_extent.proofs.words.has_bits.Goals as goal

pub returns : goal.returns
returns c =
    let is = has_mask c.args.word c.ones_between-mask.result c.args.low c.args.high c.ones_between-mask.ensures c.requires.order in (
      λ yes. is.0 (eqb-true (bit_and c.args.word c.ones_between-mask.result) c.ones_between-mask.result yes),
      λ run. eq-eqb (bit_and c.args.word c.ones_between-mask.result) c.ones_between-mask.result (is.1 run),
    )

use Rattle.std.proofs.Common.{◌∙◌, sym, ap, cond, Bool, inl, inr, arith}
use Rattle.rs_extent.proofs.Bits.{set_inside, set_outside, cleared_inside, cleared_outside}
use Rattle.rs_extent.proofs.words.with_bits.Goals as goal

pub returns-then-value-clause-inside : goal.returns-then-value-clause-inside
returns-then-value-clause-inside c bit from until =
    set_inside c.args.word c.ones_between-mask.result c.args.low c.args.high bit c.ones_between-mask.ensures from until
    ∙ ap (λ (b : Bool). cond b 1 0) (sym c.if-value.true)

pub returns-then-value-clause-below : goal.returns-then-value-clause-below
returns-then-value-clause-below c bit lt =
    set_outside c.args.word c.ones_between-mask.result c.args.low c.args.high bit c.ones_between-mask.ensures (inl lt)

pub returns-then-value-clause-above : goal.returns-then-value-clause-above
returns-then-value-clause-above c bit le small =
    set_outside c.args.word c.ones_between-mask.result c.args.low c.args.high bit c.ones_between-mask.ensures (inr le)

pub returns-else-value-clause-inside : goal.returns-else-value-clause-inside
returns-else-value-clause-inside c bit from until =
    cleared_inside c.args.word c.ones_between-mask.result c.args.low c.args.high bit c.ones_between-mask.ensures (omega arith) c.requires.fits from until
    ∙ ap (λ (b : Bool). cond b 1 0) (sym c.if-value.false)

pub returns-else-value-clause-below : goal.returns-else-value-clause-below
returns-else-value-clause-below c bit lt =
    cleared_outside c.args.word c.ones_between-mask.result c.args.low c.args.high bit c.ones_between-mask.ensures (omega arith) (omega arith) (inl lt)

pub returns-else-value-clause-above : goal.returns-else-value-clause-above
returns-else-value-clause-above c bit le small =
    cleared_outside c.args.word c.ones_between-mask.result c.args.low c.args.high bit c.ones_between-mask.ensures (omega arith) small (inr le)

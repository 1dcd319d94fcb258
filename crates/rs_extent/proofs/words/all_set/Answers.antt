use Rattle.std.proofs.Common.{◌∙◌, sym, ◌/◌, ◌%◌, ◌+◌, ◌*◌, inl, inr, arith}
use Rattle.std.proofs.lemmas.Bool.{cases_eq, false≢true}
use Rattle.rs_extent.proofs.Places.{bit_of-word, bit_of-at}
use Rattle.rs_extent.proofs.words.all_set.Goals as goal

pub returns-then-not-has_bits : goal.returns-then-not-has_bits
returns-then-not-has_bits c = (
  λ yes. absurd (false≢true yes),
  λ run.
      absurd
      (false≢true
      (sym c.if-not-has_bits.true ∙ c.has_bits.ensures.1 (λ bit from until. sym (bit_of-at c.args.words.now c.loop-i.i bit (omega arith)) ∙ run (64 * c.loop-i.i + bit) (omega arith) (omega arith)))),
)

pub loop-i-preserved : goal.loop-i-preserved
loop-i-preserved c place from until below = elim (cases_eq (place / 64) c.loop-i.i) [
  | inl is ↦ bit_of-word c.args.words.now c.loop-i.i place is ∙ c.has_bits.ensures.0 c.if-not-has_bits.false (place % 64) (omega arith) (omega arith)
  | inr apart ↦ c.loop-i.invariant place from until (omega arith)
]

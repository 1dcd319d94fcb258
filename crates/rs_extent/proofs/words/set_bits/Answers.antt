use Rattle.std.proofs.Common.{◌≡◌, ◌∙◌, sym, ℕ, ◌/◌, ◌%◌, ◌<◌, length, inl, inr, arith}
use Rattle.std.proofs.lemmas.Bool.{cases_eq}
use Rattle.rs_extent.proofs.Places.{bit_of-word, bit_of-set_same, bit_of-set_other}
use Rattle.rs_extent.proofs.words.set_bits.Goals as goal

pub loop-i-preserved : goal.loop-i-preserved
loop-i-preserved c =
    let room : c.loop-i.i < length c.loop-i.words = omega arith in
    let same = λ (place : ℕ) (is : place / 64 ≡ c.loop-i.i). bit_of-set_same c.loop-i.words c.loop-i.i c.with_bits.result place room is in
    let other = λ (place : ℕ) (is : place / 64 ≡ c.loop-i.i → ⊥). bit_of-set_other c.loop-i.words c.loop-i.i c.with_bits.result place is in
    let was = λ (place : ℕ) (is : place / 64 ≡ c.loop-i.i). sym (bit_of-word c.loop-i.words c.loop-i.i place is) in
    record {
      within = λ place from until below. elim (cases_eq (place / 64) c.loop-i.i) [
        | inl is ↦ same place is ∙ c.with_bits.ensures.inside (place % 64) (omega arith) (omega arith)
        | inr apart ↦ other place apart ∙ c.loop-i.invariant.within place from until (omega arith)
      ];
      before = λ place lt. elim (cases_eq (place / 64) c.loop-i.i) [
        | inl is ↦ same place is ∙ c.with_bits.ensures.below (place % 64) (omega arith) ∙ was place is ∙ c.loop-i.invariant.before place lt
        | inr apart ↦ other place apart ∙ c.loop-i.invariant.before place lt
      ];
      after = λ place le. elim (cases_eq (place / 64) c.loop-i.i) [
        | inl is ↦ same place is ∙ c.with_bits.ensures.above (place % 64) (omega arith) (omega arith) ∙ was place is ∙ c.loop-i.invariant.after place le
        | inr apart ↦ other place apart ∙ c.loop-i.invariant.after place le
      ];
      ahead = λ place le. other place (λ is. omega arith) ∙ c.loop-i.invariant.ahead place (omega arith);
    }

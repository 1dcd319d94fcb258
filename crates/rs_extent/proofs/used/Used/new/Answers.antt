use Rattle.std.proofs.Common.{rules, ◌≡◌, replicate, ◌∙◌, ap, ℕ, List, arith}
use Rattle.rs_extent.specs.Words.{bit_of}
use Rattle.rs_extent.proofs.Bitmaps.{length-used_blocks, bit_of-zeros, stored_made, stored_used}
use Rattle.rs_extent.proofs.used.Used.new.Goals as goal

pub invariant_of-result : goal.invariant_of-result
invariant_of-result c =
    let zeros : c.resize.new.self.items ≡ replicate c.div_ceil.result 0 = search rules in
    stored_made c.args.blocks c.resize.new.self.len c.resize.new.self.items c.deref_mut.result.now c.set_bits.new.words
    (λ b. ap (λ (l : List ℕ). bit_of l b) zeros ∙ bit_of-zeros c.div_ceil.result b)
    c.deref_mut.ensures.value c.set_bits.auto.words c.deref_mut.ensures.len c.set_bits.ensures (omega (arith, c.div_ceil.ensures, c.in_ok-resize.ensures.len)) (omega (arith, c.div_ceil.ensures, c.in_ok-resize.ensures.len))

pub returns-clause-size : goal.returns-clause-size
returns-clause-size c = length-used_blocks c.args.blocks _

pub returns-clause-first_two : goal.returns-clause-first_two
returns-clause-first_two c =
    let zeros : c.resize.new.self.items ≡ replicate c.div_ceil.result 0 = search rules in
    stored_used c.args.blocks c.resize.new.self.len c.resize.new.self.items c.deref_mut.result.now c.set_bits.new.words
    (λ b. ap (λ (l : List ℕ). bit_of l b) zeros ∙ bit_of-zeros c.div_ceil.result b)
    c.deref_mut.ensures.value c.set_bits.auto.words c.deref_mut.ensures.len c.set_bits.ensures

use Rattle.std.proofs.Common.{sym, ◌∙◌, ap, ℕ, List, length, get_or, arith}
use Rattle.rs_extent.proofs.Blocks.{run_on_disk}
use Rattle.rs_extent.proofs.Bitmaps.{length-used, stored_taken, stored_sets}
use Rattle.rs_extent.proofs.used.Used.take.Goals as goal

pub set_bits-requires-clause-room : goal.set_bits-requires-clause-room
set_bits-requires-clause-room c =
    let inside = run_on_disk c.args.self.now c.args.extent.first c.args.extent.blocks c.requires (omega arith) in
    omega (arith, inside, length-used _ _ _ c.self.view_is, c.self.invariant.covers, ap (λ (l : List ℕ). length l) c.deref_mut.ensures.value)

pub invariant_of-self : goal.invariant_of-self
invariant_of-self c =
    stored_taken _ _ _ _ _ _ _ _ _ c.self.invariant c.deref_mut.ensures.value c.set_bits.auto.words c.deref_mut.ensures.len c.set_bits.ensures
    (λ i from until. ap (λ (l : List ℕ). get_or l i 0) (sym c.deref.ensures.value) ∙ c.skip_zeros-self-inside.ensures i from until)

pub returns : goal.returns
returns c =
    let inside = run_on_disk c.args.self.now c.args.extent.first c.args.extent.blocks c.requires (omega arith) in
    stored_sets _ _ 0 _ _ c.set_bits.new.words _ c.args.extent c.self.view_is c.deref_mut.ensures.value c.set_bits.auto.words c.deref_mut.ensures.len c.set_bits.ensures
    (omega (arith, inside, length-used _ _ _ c.self.view_is))

use Rattle.std.proofs.Common.{ap, ℕ, List, length, arith}
use Rattle.rs_extent.proofs.Blocks.{taken_on_disk}
use Rattle.rs_extent.proofs.Bitmaps.{length-used, stored_given, stored_sets}
use Rattle.rs_extent.proofs.used.Used.give.Goals as goal

pub set_bits-requires-clause-room : goal.set_bits-requires-clause-room
set_bits-requires-clause-room c =
    let inside = taken_on_disk c.args.self.now c.args.extent c.requires (omega arith) in
    omega (arith, inside, length-used _ _ _ c.self.view_is, c.self.invariant.covers, ap (λ (l : List ℕ). length l) c.deref_mut.ensures.value)

pub invariant_of-self : goal.invariant_of-self
invariant_of-self c =
    let inside = taken_on_disk c.args.self.now c.args.extent c.requires (omega arith) in
    stored_given _ _ _ _ _ _ _ _ _ c.self.invariant c.deref_mut.ensures.value c.set_bits.auto.words c.deref_mut.ensures.len c.set_bits.ensures
    (omega (arith, inside, length-used _ _ _ c.self.view_is)) (omega arith) (omega arith)

pub returns : goal.returns
returns c =
    let inside = taken_on_disk c.args.self.now c.args.extent c.requires (omega arith) in
    stored_sets _ _ 1 _ _ c.set_bits.new.words _ c.args.extent c.self.view_is c.deref_mut.ensures.value c.set_bits.auto.words c.deref_mut.ensures.len c.set_bits.ensures
    (omega (arith, inside, length-used _ _ _ c.self.view_is))

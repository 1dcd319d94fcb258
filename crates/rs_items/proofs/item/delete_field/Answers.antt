-- A `delete` has one field.
use Rattle.std.proofs.Common.{codes, inl, refl}
use Rattle.rs_items.proofs.ItemLemmas.{too_many}
use Rattle.rs_items.proofs.item.delete_field.Goals as goal

pub returns-in-Some : goal.returns-in-Some
returns-in-Some c =
    let parts = c.in-Some.field-0 in
    rw (c.in-Some.ensures.some 1, too_many (codes "delete") parts.0.now parts.1.now refl) (inl refl)

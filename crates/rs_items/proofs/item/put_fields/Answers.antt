-- `put` with too few fields, or with its three.
use Rattle.std.proofs.Common.{inl, refl}
use Rattle.rs_items.proofs.FieldLemmas.{fields-zero}
use Rattle.rs_items.proofs.item.put_fields.Goals as goal

pub returns-in_default : goal.returns-in_default
returns-in_default c = rw (c.in_default.ensures.none 1) (inl refl)

pub returns-in-Some-split_field : goal.returns-in-Some-split_field
returns-in-Some-split_field c =
    rw (c.in-Some.ensures.some 1, c.in-Some-split_field.ensures.some 0, fields-zero c.in-Some-split_field.kind.now) c.put_item.ensures

pub returns-in-None : goal.returns-in-None
returns-in-None c = rw (c.in-Some.ensures.some 1, c.in-None.ensures.none 0) (inl refl)

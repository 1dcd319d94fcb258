-- A line is an item by its first field.
use Rattle.std.proofs.Common.{◌≡◌, codes, bytes_eq, false, inl, refl, rules}
use Rattle.rs_items.specs.Items.{item_of_line}
use Rattle.rs_items.proofs.ItemLemmas.{other_word}
use Rattle.rs_items.proofs.item.item_of.Goals as goal

pub returns-in_default : goal.returns-in_default
unfolding item_of_line
returns-in_default c = rw (c.in_default.ensures.none 2) (inl refl)

pub returns-then-eq : goal.returns-then-eq
unfolding item_of_line
returns-then-eq c =
    let is_put : c.in-Some.word.now ≡ codes "put" = search rules in
    rw (c.in-Some.ensures.some 2, is_put) c.put_fields.ensures

pub returns-then-eq-2 : goal.returns-then-eq-2
unfolding item_of_line
returns-then-eq-2 c =
    let is_delete : c.in-Some.word.now ≡ codes "delete" = search rules in
    rw (c.in-Some.ensures.some 2, is_delete) c.delete_field.ensures

pub returns : goal.returns
unfolding item_of_line
returns c =
    let no_put : bytes_eq c.in-Some.word.now (codes "put") ≡ false = search rules in
    let no_delete : bytes_eq c.in-Some.word.now (codes "delete") ≡ false = search rules in
    rw (c.in-Some.ensures.some 2, other_word c.in-Some.word.now c.in-Some.arguments.now no_put no_delete) (inl refl)

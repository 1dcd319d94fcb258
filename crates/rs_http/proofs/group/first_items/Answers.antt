-- The items so far, and those that follow.
use Rattle.std.proofs.Common.{◌≡◌, ◌∙◌, [], ◌∷◌, ◌++◌, ◌⊎◌, inl, inr, List, take, ap, Err}
use Rattle.std.proofs.lemmas.Result.{err_from_is_err_and}
use Rattle.rs_model.specs.declared.command.Item.{Item}
use Rattle.rs_items.specs.declared.item.ItemFault.{ItemFault}
use Rattle.rs_items.specs.declared.item.ItemFault.TheVariants.{NoMemory}
use Rattle.rs_items.specs.Items.{item_of_line}
use Rattle.rs_http.specs.Groups.{items_of_lines, items_in}
use Rattle.rs_items.specs.Lines.{last_line}
use Rattle.rs_http.proofs.Lines.{behind_none, takes_line, meets_fault, takes_last, last_fault, take_then}
use Rattle.rs_http.proofs.group.first_items.Goals as goal

-- a fault of a line is that of the body
passed_on : (One Whole : ItemFault → Type 0) (fault : ItemFault) → ((fault : ItemFault) → One fault → Whole fault)
    → (fault ≡ NoMemory) ⊎ One fault → (fault ≡ NoMemory) ⊎ Whole fault
passed_on One Whole fault is (inl lacking) = inl lacking
passed_on One Whole fault is (inr one) = inr (is fault one)

pub loop-line-init : goal.loop-line-init
loop-line-init c = record { done = []; so_far = behind_none (items_in c.args.body.now); kept = c.new-items.ensures.items }

pub returns-in_err-add_item-clause-err : goal.returns-in_err-add_item-clause-err
returns-in_err-add_item-clause-err c =
    let inv = c.loop-line.invariant in
    let p = err_from_is_err_and c.from_residual.result c.from_residual.ensures.1 in
    let body = c.args.body.now in
    rw (p.1, p.2)
    (passed_on (λ fault. item_of_line c.in-Some.line.now ≡ Err fault) (λ fault. items_in body ≡ Err fault) c.in_err-add_item.field-0.0
    (meets_fault body c.loop-line.rest.now inv.done inv.so_far c.in-Some.line.now c.in-Some.after.now c.in-Some.ensures.some) c.in_err-add_item.ensures.err)

pub loop-line-preserved : goal.loop-line-preserved
loop-line-preserved c =
    let inv = c.loop-line.invariant in
    let added = c.in_ok-add_item.ensures.ok in
    record {
      done = inv.done ++ added.0 ∷ [];
      so_far = takes_line c.args.body.now c.loop-line.rest.now inv.done inv.so_far c.in-Some.line.now c.in-Some.after.now c.in-Some.ensures.some added.0 added.1;
      kept = added.2 ∙ ap (λ (items : List Item). take 17 (items ++ added.0 ∷ [])) inv.kept ∙ take_then 17 inv.done (added.0 ∷ []);
    }

pub returns-in_err-add_last-clause-err : goal.returns-in_err-add_last-clause-err
returns-in_err-add_last-clause-err c =
    let inv = c.loop-line.invariant in
    let p = err_from_is_err_and c.from_residual-in_err-add_last.result c.from_residual-in_err-add_last.ensures.1 in
    let body = c.args.body.now in
    rw (p.1, p.2)
    (passed_on (λ fault. items_of_lines (last_line c.loop-line.rest.now) ≡ Err fault) (λ fault. items_in body ≡ Err fault) c.in_err-add_last.field-0.0
    (last_fault body c.loop-line.rest.now inv.done inv.so_far c.in_default.ensures.none) c.in_err-add_last.ensures.err)

pub returns-clause-ok : goal.returns-clause-ok
returns-clause-ok c =
    let inv = c.loop-line.invariant in
    let added = c.in_ok-add_last.ensures.ok in (
      inv.done ++ added.0,
      takes_last c.args.body.now c.loop-line.rest.now inv.done inv.so_far c.in_default.ensures.none added.0 added.1,
      added.2 ∙ ap (λ (items : List Item). take 17 (items ++ added.0)) inv.kept ∙ take_then 17 inv.done added.0,
    )

-- A fault, or one item more.
use Rattle.std.proofs.Common.{◌≡◌, ◌⊎◌, ◌∙◌, ◌++◌, ◌∷◌, [], ℕ, List, sym, inl, inr, Result, Ok, Err, Vec, Global, rules, subst}
use Rattle.rs_model.specs.declared.command.Item.{Item}
use Rattle.rs_script.specs.declared.refusal.Refusal.{Refusal}
use Rattle.rs_script.specs.declared.refusal.Refusal.TheVariants.{Line}
use Rattle.rs_items.specs.declared.item.ItemFault.TheVariants as fault
use Rattle.rs_script.specs.Taken.{KeepsItems}
use Rattle.rs_script.proofs.GroupItems.{stays_refused, is_refused, no_room, has_item}
use Rattle.rs_script.proofs.group.with_line.Goals as goal

refused_so : {Room : Type 0} (result found : Result Item Refusal) (refusal : Refusal) → result ≡ Err refusal → (result ≡ found) ⊎ ((result ≡ Err (Line fault.NoMemory)) × Room)
    → (Err refusal ≡ found) ⊎ ((refusal ≡ Line fault.NoMemory) × Room)
refused_so result found refusal is (inl e) = inl (sym is ∙ e)
refused_so result found refusal is (inr (e, room)) = inr (cc, room)

given_so : {Room : Type 0} (result found : Result Item Refusal) (item : Item) → result ≡ Ok item → (result ≡ found) ⊎ ((result ≡ Err (Line fault.NoMemory)) × Room) → Ok item ≡ found
given_so result found item is (inl e) = sym is ∙ e
given_so result found item is (inr (e, room)) = absurd cc

keeps_so : (items : Result (Vec Item Global) Refusal) (same : Result (Vec Item Global) Refusal) (lines : List (List ℕ)) → items ≡ same
    → KeepsItems items lines → KeepsItems same lines
keeps_so items same lines e k = subst (λ (i : Result (Vec Item Global) Refusal). KeepsItems i lines) e k

pub returns-in_err-items : goal.returns-in_err-items
returns-in_err-items c = λ line lines is kept.
    let refusal = c.in_err-items.field-0.0 in
    let same : c.from_residual.result ≡ Err refusal = search rules in
    keeps_so (Err refusal) c.from_residual.result (lines ++ line ∷ []) (sym same)
    (stays_refused lines line refusal (keeps_so c.args.items (Err refusal) lines c.in_err-items.was kept))

pub returns-in_err-item : goal.returns-in_err-item
returns-in_err-item c = λ line lines is kept.
    let refusal = c.in_err-item.field-0.0 in
    let same : c.from_residual-in_err-item.result ≡ Err refusal = search rules in
    keeps_so (Err refusal) c.from_residual-in_err-item.result (lines ++ line ∷ []) (sym same)
    (is_refused c.in_ok-items.items lines line refusal (keeps_so c.args.items (Ok c.in_ok-items.items) lines c.in_ok-items.was kept)
    (refused_so c.item_in.result _ refusal c.in_err-item.was (c.item_in.ensures line is)))

pub returns-in-Ok : goal.returns-in-Ok
returns-in-Ok c = λ line lines is kept.
    has_item c.in_ok-items.items c.push.new.self lines line c.in_ok-item.item
    (keeps_so c.args.items (Ok c.in_ok-items.items) lines c.in_ok-items.was kept)
    (given_so c.item_in.result _ c.in_ok-item.item c.in_ok-item.was (c.item_in.ensures line is)) c.in-Ok.ensures.items

pub returns-in-Err : goal.returns-in-Err
returns-in-Err c = λ line lines is kept.
    no_room c.in_ok-items.items lines line c.in_ok-item.item
    (keeps_so c.args.items (Ok c.in_ok-items.items) lines c.in_ok-items.was kept)
    (given_so c.item_in.result _ c.in_ok-item.item c.in_ok-item.was (c.item_in.ensures line is))

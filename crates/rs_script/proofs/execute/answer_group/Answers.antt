-- A group that the source gets, and one that is refused for a fault of a line.
use Rattle.std.proofs.Common.{◌≡◌, ◌⊎◌, ◌∙◌, ℕ, List, Result, Ok, Err, Vec, Global, ap, sym, inl, inr, subst}
use Rattle.rs_model.specs.declared.command.Command.TheVariants.{Group}
use Rattle.rs_model.specs.declared.command.Item.{Item}
use Rattle.rs_script.specs.declared.refusal.Refusal.{Refusal}
use Rattle.rs_script.specs.declared.refusal.Refusal.TheVariants.{Line}
use Rattle.rs_items.specs.declared.item.ItemFault.TheVariants as fault
use Rattle.rs_script.specs.declared.request.Request.{Request}
use Rattle.rs_script.specs.declared.request.Request.TheVariants.{Run}
use Rattle.rs_script.specs.Room.{GroupTakesRoom}
use Rattle.rs_script.specs.Session.{script_state}
use Rattle.rs_script.specs.Statements.{items_of_group, group_request}
use Rattle.rs_script.specs.Taken.{KeepsItems}
use Rattle.rs_script.proofs.AnswerLemmas.{refused_answered, understood}
use Rattle.rs_script.proofs.execute.answer_group.Goals as goal

abbrev denied : Refusal → Result Request Refusal
denied refusal = Err refusal

abbrev granted : Request → Result Request Refusal
granted request = Ok request

why : (items : Result (Vec Item Global) Refusal) (refusal : Refusal) (lines : List (List ℕ)) → items ≡ Err refusal → KeepsItems items lines
    → (Err refusal ≡ group_request (items_of_group lines)) ⊎ ((denied refusal ≡ denied (Line fault.NoMemory)) × GroupTakesRoom lines)
why items refusal lines is kept = by_kept (subst (λ (i : Result (Vec Item Global) Refusal). KeepsItems i lines) is kept)
  where
    by_kept : KeepsItems (Err refusal) lines → (Err refusal ≡ group_request (items_of_group lines)) ⊎ ((denied refusal ≡ denied (Line fault.NoMemory)) × GroupTakesRoom lines)
    by_kept (inl e) = inl (sym (ap group_request e))
    by_kept (inr (e, room)) = inr (ap denied e, room)

-- a group of these items was asked for
whole : (items : Result (Vec Item Global) Refusal) (kept : Vec Item Global) (group : List Item) (lines : List (List ℕ)) → items ≡ Ok kept → group ≡ kept.items → KeepsItems items lines
    → granted (Run (Group group)) ≡ group_request (items_of_group lines)
whole items kept group lines is same has =
    let found : items_of_group lines ≡ Ok kept.items = subst (λ (i : Result (Vec Item Global) Refusal). KeepsItems i lines) is has in
    ap (λ (l : List Item). granted (Run (Group l))) same ∙ sym (ap group_request found)

pub returns-in-Ok-clause-answered : goal.returns-in-Ok-clause-answered
returns-in-Ok-clause-answered g c = λ lines kept.
    understood g.D.Disk.state (script_state c.args.source.now c.args.now) (script_state c.run_command.new.source c.args.now)
    (group_request (items_of_group lines)) (GroupTakesRoom lines) (Run (Group c.new.result)) _
    (inl (whole c.args.items c.in-Ok.items c.new.result lines c.in-Ok.is c.new.ensures kept)) c.run_command.ensures.answered

pub returns-in-Err-clause-answered : goal.returns-in-Err-clause-answered
returns-in-Err-clause-answered g c = λ lines kept.
    refused_answered g.D.Disk.state (script_state c.args.source.now c.args.now) (group_request (items_of_group lines)) (GroupTakesRoom lines) c.in-Err.refusal _
    (why c.args.items c.in-Err.refusal lines c.in-Err.is kept) c.write_refusal.ensures.written

-- The source is asked for all items, unless a line has a fault.
use Rattle.std.proofs.Common.{◌∙◌, inl, inr, refl, subst, List}
use Rattle.rs_model.specs.declared.command.Command.TheVariants as commands
use Rattle.rs_model.specs.declared.command.Item.{Item}
use Rattle.rs_items.specs.declared.item.ItemFault.{ItemFault}
use Rattle.rs_store.specs.declared.refusal.Refusal.TheVariants.{NoMemory}
use Rattle.rs_http.specs.declared.request.RequestFault.TheVariants.{Line}
use Rattle.rs_http.specs.Turn.{turn}
use Rattle.rs_http.specs.Responses.{faulted, refused}
use Rattle.rs_http.specs.Outcomes.{RunComesTo, Sends}
use Rattle.rs_http.proofs.Asking.{answers_more}
use Rattle.rs_http.proofs.Groups.{whole_comes}
use Rattle.rs_http.proofs.answer.ask_group.Goals as goal

-- The response to a lack of memory for the items is that of a source that refuses for lack of memory.
pub returns-in-Err : goal.returns-in-Err
returns-in-Err g c = λ rest.
    let fault = c.in-Err.fault in
    elim c.in-Err.ensures.err [
      | inl lacking ↦ record {
        outcome = refused NoMemory;
        comes_of_it = inl (refl, inr (inr (inr (refl, refl))));
        sends = subst (λ (f : ItemFault). Sends g.W.Write.contents c.args.writer.now c.write_fault.new.writer c.args.exchange.framing (faulted (Line f)) c.write_fault.result)
            lacking c.write_fault.ensures;
      }
      | inr is ↦ record { outcome = faulted (Line fault); comes_of_it = inl (refl, inr (inl (refl, fault, is, refl))); sends = c.write_fault.ensures }
    ]

pub returns : goal.returns
returns g c = λ rest.
    let found = c.in-Ok.ensures.ok in
    let asked = turn g.D.Disk.state c.args.source.now c.args.exchange.moment c.run.new.source in
    answers_more (λ outcome r. inr (record {
      items = found.0;
      whole = refl;
      are = found.1;
      comes = whole_comes asked found.0 outcome (subst (λ (items : List Item). RunComesTo asked (commands.Group items) outcome) (c.new.ensures ∙ found.2) r);
    })) c.run.ensures

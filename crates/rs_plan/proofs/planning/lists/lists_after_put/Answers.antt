use Rattle.std.proofs.Common.{sym, ap₂, ◌∙◌, ap, nat_eq, ℕ, List}
use Rattle.rs_record.specs.declared.record.Record.{Record}
use Rattle.rs_record.specs.Changes.{bound}
use Rattle.rs_pages.specs.Rule.{bound_in}
use Rattle.rs_catalogue.specs.Catalogue.{records_of}
use Rattle.rs_catalogue.specs.Named.{named}
use Rattle.rs_model.specs.Names.{bind}
use Rattle.rs_plan.specs.Placed.{record_of_body, facts_of_body}
use Rattle.rs_plan.proofs.Replies.{put_made, held_again}
use Rattle.rs_plan.proofs.planning.lists.lists_after_put.Goals as goal

pub returns : goal.returns
returns c =
    let old = c.args.old.now in
    let made : Record = record_of_body c.args.name.now c.args.kind.now c.args.body_length c.args.digests c.args.body c.args.moment in
    let catalogue = c.in_ok-catalogue.catalogue in
    let record_is = ap₂ (λ (n k : List ℕ). record_of_body n k c.args.body_length c.args.digests c.args.body c.args.moment) c.in_ok-copy.ensures c.in_ok-copy-2.ensures in
    put_made c.lists_with.result old made catalogue c.bound-change.result (nat_eq c.len.result c.len-2.result) c.lists_with.ensures
    (c.in_ok-catalogue.ensures.pages ∙ ap (λ (r : Record). bound_in (λ (r : Record). r.name) r old.catalogue) record_is)
    (c.bound-change.ensures
    ∙ ap₂ (λ (n k : List ℕ). bound n (nat_eq c.len.result c.len-2.result) c.args.moment (facts_of_body k c.args.body_length c.args.digests)) c.in_ok-copy-4.ensures
    c.in_ok-copy-3.ensures)
    (held_again c.args.name.now made (records_of old.catalogue) (records_of catalogue)
    (c.in_ok-catalogue.ensures.bound ∙ ap (λ (r : Record). bind r.name r (named (records_of old.catalogue))) record_is)
    ∙ ap₂ nat_eq (sym c.len.ensures.value) (sym c.len-2.ensures.value))

use Rattle.std.proofs.Common.{◌≡◌, ◌++◌, ◌∷◌, [], ◌≤◌, List, length, map, sym, ◌∙◌, ap, ap₂, subst, arith}
use Rattle.std.proofs.lemmas.List.{take_all}
use Rattle.rs_extent.specs.declared.Extent.{Extent}
use Rattle.rs_record.specs.declared.record.Record.{Record}
use Rattle.rs_catalogue.specs.Catalogue.{records_of, AreHeld}
use Rattle.rs_copy.specs.Laying.{as_published, extent_published}
use Rattle.rs_copy.proofs.MovedBodies.{map_one_more}
use Rattle.rs_copy.proofs.Records.{held_moved, published_moved}
use Rattle.rs_copy.proofs.listing.published_records.Goals as goal

pub loop-i-preserved : goal.loop-i-preserved
loop-i-preserved c =
    let all = records_of c.args.published.now in
    let held = records_of c.args.held.now in
    let i = c.loop-i.i in
    let r = c.at.result.now in
    let same : c.at-in-loop-i.result.now ≡ r = cc in
    let item : Record = record c.in_ok-item.item { extent = c.extent_published-item.result } in
    let made : item ≡ as_published held r = ap₂ (λ (x : Record) (e : Extent). record x { extent = e }) c.in_ok-item.ensures
    (c.extent_published-item.ensures ∙ ap (extent_published held) same) in
    c.in_ok-push.ensures.items
    ∙ ap₂ (λ (l : List Record) (x : Record). l ++ x ∷ []) c.loop-i.invariant made
    ∙ sym (map_one_more (as_published held) all i r c.at.ensures)

pub returns-clause-lawful : goal.returns-clause-lawful
returns-clause-lawful c =
    let all = records_of c.args.published.now in
    let held = records_of c.args.held.now in
    let past : length all ≤ c.loop-i.i = omega (arith, c.loop-i-test.false, c.len-i-end.ensures.value) in
    let is : map (as_published held) all ≡ c.loop-i.records.items =
    ap (map (as_published held)) (sym (take_all c.loop-i.i all past)) ∙ sym c.loop-i.invariant in
    subst AreHeld is (held_moved all (map (as_published held) all) (published_moved held all) c.len-i-end.ensures.lawful.held)

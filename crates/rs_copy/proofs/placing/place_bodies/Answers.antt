use Rattle.std.proofs.Common.{◌≡◌, ◌≤◌, ◌+◌, ◌++◌, ◌∷◌, [], ℕ, List, length, take, drop, map, sym, ◌∙◌, ap, subst, arith}
use Rattle.std.proofs.lemmas.List.{map-append, take_all}
use Rattle.std.specs.List.{AllZip}
use Rattle.std.proofs.lemmas.List.Elements.{AllZip-push}
use Rattle.rs_extent.specs.declared.Extent.{Extent}
use Rattle.rs_body.specs.Blocks.{blocks_of}
use Rattle.rs_record.specs.declared.record.Record.{Record}
use Rattle.rs_catalogue.specs.Catalogue.{records_of}
use Rattle.rs_image.specs.Reach.{bodies_of}
use Rattle.rs_plan.specs.Room.{HasNoRoom, TakesEach}
use Rattle.rs_copy.specs.declared.faults.CopyFault.TheVariants.{Full}
use Rattle.rs_copy.specs.Laying.{IsMoved, records_needed}
use Rattle.rs_copy.proofs.Handed.{handed_err}
use Rattle.rs_copy.proofs.MovedBodies.{map_one_more, take_one_more, at_place}
use Rattle.rs_copy.proofs.Records.{held_moved}
use Rattle.rs_copy.proofs.Taking.{takes_more, takes_no_more}
use Rattle.rs_copy.proofs.placing.place_bodies.Goals as goal

pub returns-in_err-placed-clause-full : goal.returns-in_err-placed-clause-full
returns-in_err-placed-clause-full c is =
    let all = records_of c.args.catalogue.now in
    let i = c.loop-i.i in
    let r = c.at.result.now in
    let need : Record → ℕ = λ (x : Record). blocks_of x.length in
    let parts : records_needed all ≡ records_needed (take i all) ++ blocks_of r.length ∷ records_needed (drop (i + 1) all) =
    ap (map need) (at_place all i r c.at.ensures) ∙ map-append need (take i all) (r ∷ drop (i + 1) all) in
    subst (HasNoRoom c.args.used.now) (sym parts)
    (takes_no_more c.args.used.now c.loop-i.used (records_needed (take i all)) (bodies_of c.loop-i.held.items) (blocks_of r.length) (records_needed (drop (i + 1) all))
    c.loop-i.invariant.found (c.in_err-placed.ensures.full (handed_err c.from_residual.result c.in_err-placed.field-0.0 Full c.from_residual.ensures.1 is)))

pub loop-i-preserved : goal.loop-i-preserved
loop-i-preserved c =
    let all = records_of c.args.catalogue.now in
    let i = c.loop-i.i in
    let r = c.at.result.now in
    let m : Record = c.in_ok-placed.field-0 in
    let held = c.loop-i.held.items in
    let now = c.placed.new.used in
    let pushed : c.add.new.records.items ≡ held ++ m ∷ [] = c.in_ok-add.ensures in
    let first : take (i + 1) all ≡ take i all ++ r ∷ [] = take_one_more all i r c.at.ensures in
    let need : Record → ℕ = λ (x : Record). blocks_of x.length in
    let needs : records_needed (take (i + 1) all) ≡ records_needed (take i all) ++ blocks_of r.length ∷ [] =
    map_one_more need all i r c.at.ensures in
    let bodies : bodies_of c.add.new.records.items ≡ bodies_of held ++ m.extent ∷ [] =
    ap bodies_of pushed ∙ map-append (λ (x : Record). x.extent) held (m ∷ []) in
    record {
      records = subst (λ (l : List Record). AllZip IsMoved l c.add.new.records.items) (sym first)
          (subst (λ (l : List Record). AllZip IsMoved (take i all ++ r ∷ []) l) (sym pushed)
          (AllZip-push IsMoved (take i all) held r m c.loop-i.invariant.records c.in_ok-placed.ensures.same));
      found = subst (λ (ns : List ℕ). TakesEach c.args.used.now ns (bodies_of c.add.new.records.items) now) (sym needs)
          (subst (λ (es : List Extent). TakesEach c.args.used.now (records_needed (take i all) ++ blocks_of r.length ∷ []) es now) (sym bodies)
          (takes_more c.args.used.now c.loop-i.used now (records_needed (take i all)) (bodies_of held) (blocks_of r.length) m.extent
          c.loop-i.invariant.found c.in_ok-placed.ensures.found));
    }

pub returns-clause-lawful : goal.returns-clause-lawful
returns-clause-lawful c =
    let all = records_of c.args.catalogue.now in
    let past : length all ≤ c.loop-i.i = omega (arith, c.loop-i-test.false, c.len-i-end.ensures.value) in
    let moved : AllZip IsMoved all c.loop-i.held.items =
    subst (λ (l : List Record). AllZip IsMoved l c.loop-i.held.items) (take_all c.loop-i.i all past) c.loop-i.invariant.records in
    held_moved all c.loop-i.held.items moved c.len-i-end.ensures.lawful.held

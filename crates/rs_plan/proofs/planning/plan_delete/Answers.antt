use Rattle.std.proofs.Common.{ℕ, List, [], ◌∷◌, sym, refl, ◌∙◌, subst}
use Rattle.std.specs.Prelude.{IfOk, IsErrOf}
use Rattle.rs_extent.specs.declared.Extent.{Extent}
use Rattle.rs_extent.specs.Extents.{CanTake}
use Rattle.rs_plan.proofs.FromBelow.{taken_none}
use Rattle.rs_image.specs.declared.contents.Contents.{Contents}
use Rattle.rs_model.specs.declared.command.Command.TheVariants.{Delete}
use Rattle.rs_model.specs.declared.command.Item.TheVariants as single
use Rattle.rs_model.specs.declared.command.Reply.TheVariants.{Deleted}
use Rattle.rs_plan.specs.declared.planning.PlanFault.TheVariants.{Full}
use Rattle.rs_plan.specs.Placed.{AreUnplaced}
use Rattle.rs_plan.specs.PlacedFrom.{IsPlacedFrom, HasNoRoomFrom}
use Rattle.rs_plan.specs.Plans.{IsPlanned, IsFullFor}
use Rattle.rs_plan.specs.Turned.{no_body, lists_after_item, MayDoEach}
use Rattle.rs_plan.proofs.Extents.{could_take, takes_none}
use Rattle.rs_plan.proofs.Grouped.{delete_does, may_one, frees_one, items_unplaced, items_answer}
use Rattle.rs_plan.proofs.Here.{IsAccepted, accepted, made_of}
use Rattle.rs_plan.proofs.planning.plan_delete.Goals as goal
use Rattle.rs_plan.proofs.planning.plan_delete.Goals.{After-types_are_kept, After-place_lists}

given : (c : After-types_are_kept) → IsAccepted c.args.old.now c.args.moment
given c =
    accepted c.args.old.now _ c.args.moment c.contents-contents.ensures.contents c.page_rule_is_kept.ensures c.contents-contents.ensures.sound c.types_are_kept.ensures.lists
    c.types_are_kept.ensures.moment c.requires.may.change.later

may : (c : After-types_are_kept) → MayDoEach c.args.old.now.contents (single.Delete c.args.name.now ∷ []) c.args.moment []
may c = may_one c.args.old.now c.args.moment (given c) (single.Delete c.args.name.now) c.requires.may []

-- the lists after it
abbrev after : List ℕ → ℕ → Contents → Contents
after name moment old = lists_after_item old (single.Delete name) moment no_body

both : (c : After-place_lists) → IfOk c.place_lists.result (IsPlanned c.args.old.now (Delete c.args.name.now) c.args.moment)
    × (IsErrOf c.place_lists.result Full → IsFullFor c.args.old.now (Delete c.args.name.now) c.args.moment)
both c =
    let at = goal.at.After-place_lists c in
    let r = c.args.old.now in
    let name = c.args.name.now in
    let moment = c.args.moment in
    let used = c.args.used.now in
    let lists = c.in_ok-lists.lists in
    let gone = c.in_ok-freed.freed.items in
    items_answer r moment (given at.After-types_are_kept) (Delete name) (single.Delete name ∷ []) (delete_does name) [] (may at.After-types_are_kept) used c.requires.used
    (λ after taken. takes_none used after taken) c.place_lists.result (Deleted moment) gone lists (made_of (after name moment) _ r.contents lists c.contents-contents.ensures.contents c.in_ok-lists.ensures)
    (λ image. refl) (c.in_ok-freed.ensures ∙ frees_one r (single.Delete name) moment [])
    (subst (λ (l : List Extent). IfOk c.place_lists.result (IsPlacedFrom used l lists (Deleted moment) gone)) c.new.ensures.items c.place_lists.ensures.placed)
    (λ full. subst (λ (l : List Extent). HasNoRoomFrom used l lists) c.new.ensures.items (c.place_lists.ensures.full full))

pub place_lists-requires : goal.place_lists-requires
place_lists-requires c =
    let at = goal.at.place_lists-requires c in
    let r = c.args.old.now in
    let name = c.args.name.now in
    let moment = c.args.moment in
    let used = c.args.used.now in
    record {
      unplaced = subst AreUnplaced (sym (made_of (after name moment) _ r.contents _ c.contents-contents.ensures.contents c.in_ok-lists.ensures))
          (items_unplaced r moment (given at.After-types_are_kept) (Delete name) (single.Delete name ∷ []) (delete_does name) [] (may at.After-types_are_kept));
      are_free = subst (CanTake used) (sym c.new.ensures.items) (could_take used used [] (taken_none used used refl));
    }

pub returns-clause-planned : goal.returns-clause-planned
returns-clause-planned c = (both c).0

pub returns-clause-full : goal.returns-clause-full
returns-clause-full c = (both c).1

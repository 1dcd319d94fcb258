use Rattle.std.proofs.Common.{◌≡◌, ap, List, [], refl, sym, subst}
use Rattle.std.specs.Prelude.{IfOk, IsErrOf}
use Rattle.rs_extent.specs.declared.Extent.{Extent}
use Rattle.rs_extent.specs.Extents.{CanTake}
use Rattle.rs_plan.proofs.FromBelow.{taken_none}
use Rattle.rs_changes.specs.History.{IsHistory}
use Rattle.rs_image.specs.declared.contents.Contents.{Contents}
use Rattle.rs_model.specs.declared.command.Command.TheVariants.{Publish}
use Rattle.rs_model.specs.declared.command.Reply.TheVariants.{Published}
use Rattle.rs_plan.specs.declared.planning.PlanFault.TheVariants.{Full}
use Rattle.rs_plan.specs.Allowed.{MayPublish}
use Rattle.rs_plan.specs.Placed.{AreUnplaced}
use Rattle.rs_plan.specs.PlacedFrom.{IsPlacedFrom, HasNoRoomFrom}
use Rattle.rs_plan.specs.Plans.{IsPlanned, IsFullFor}
use Rattle.rs_plan.specs.Published.{lists_after_publish}
use Rattle.rs_plan.proofs.Extents.{could_take}
use Rattle.rs_plan.proofs.Here.{made_of}
use Rattle.rs_plan.proofs.Publishing.{publish_unplaced, publish_answer}
use Rattle.rs_plan.proofs.planning.plan_publish.Goals as goal
use Rattle.rs_plan.proofs.planning.plan_publish.Goals.{After-types_are_kept, After-place_lists}

is_history : (c : After-types_are_kept) → IsHistory c.args.old.now.contents.history.pages
is_history c = subst (λ (x : Contents). IsHistory x.history.pages) c.contents-contents.ensures.contents c.types_are_kept.ensures.lists.history

pub lists_after_publish-requires-clause-may : goal.lists_after_publish-requires-clause-may
lists_after_publish-requires-clause-may c = subst (λ (x : Contents). MayPublish x c.args.moment) (sym c.contents-contents.ensures.contents) c.requires.may

pub lists_after_publish-requires-clause-number : goal.lists_after_publish-requires-clause-number
lists_after_publish-requires-clause-number c =
    subst (λ (x : Contents). x.history.first ≡ x.header.first) (sym c.contents-contents.ensures.contents) c.contents-contents.ensures.sound.whole.number

pub place_lists-requires : goal.place_lists-requires
place_lists-requires c =
    let at = goal.at.place_lists-requires c in
    let used = c.args.used.now in
    let law = c.first_items_are_dropped_as_one.ensures in
    record {
      unplaced = subst AreUnplaced (sym (made_of (λ x. lists_after_publish x c.args.moment) _ c.args.old.now.contents _ c.contents-contents.ensures.contents c.in_ok-lists.ensures))
          (publish_unplaced c.args.old.now c.args.moment c.contents-contents.ensures.sound (is_history at.After-types_are_kept) c.types_are_kept.ensures.moment c.requires.may
          law.dropped law.keeps law.front);
      are_free = subst (CanTake used) (sym c.new.ensures.items) (could_take used used [] (taken_none used used refl));
    }

both : (c : After-place_lists) → IfOk c.place_lists.result (IsPlanned c.args.old.now Publish c.args.moment)
    × (IsErrOf c.place_lists.result Full → IsFullFor c.args.old.now Publish c.args.moment)
both c =
    let at = goal.at.After-place_lists c in
    let moment = c.args.moment in
    let used = c.args.used.now in
    let law = c.first_items_are_dropped_as_one.ensures in
    let lists = c.in_ok-lists.lists in
    let told = Published lists.header.number moment in
    let gone = c.in_ok-freed.freed.items in
    let are = made_of (λ x. lists_after_publish x moment) _ c.args.old.now.contents lists c.contents-contents.ensures.contents c.in_ok-lists.ensures in
    publish_answer c.args.old.now moment c.contents-contents.ensures.sound (is_history at.After-types_are_kept) c.types_are_kept.ensures.moment c.requires.may
    law.dropped law.keeps law.front used c.requires.used
    c.place_lists.result told gone lists are (λ image. ap (λ (x : Contents). Published x.header.number moment) are) c.in_ok-freed.ensures
    (subst (λ (l : List Extent). IfOk c.place_lists.result (IsPlacedFrom used l lists told gone)) c.new.ensures.items c.place_lists.ensures.placed)
    (λ full. subst (λ (l : List Extent). HasNoRoomFrom used l lists) c.new.ensures.items (c.place_lists.ensures.full full))

pub returns-clause-planned : goal.returns-clause-planned
returns-clause-planned c = (both c).0

pub returns-clause-full : goal.returns-clause-full
returns-clause-full c = (both c).1

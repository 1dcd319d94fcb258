use Rattle.std.proofs.Common.{◌≡◌, ◌∙◌, ℕ, List, [], Bool, ◌∷◌, ◌++◌, length, Result, Ok, Err, sym, refl, ap, ap₂, subst}
use Rattle.std.specs.Prelude.{IfOk, IsErrAnd, IsErrOf}
use Rattle.rs_extent.specs.declared.Extent.{Extent}
use Rattle.rs_extent.specs.Extents.{CanTake, AreTaken}
use Rattle.rs_image.specs.declared.contents.Contents.{Contents}
use Rattle.rs_model.specs.declared.command.Command.TheVariants.{Group}
use Rattle.rs_model.specs.declared.command.Reply.TheVariants.{Grouped}
use Rattle.rs_commit.specs.declared.root.Root.{Root}
use Rattle.rs_plan.specs.declared.planning.PlanFault.{PlanFault}
use Rattle.rs_plan.specs.declared.planning.PlanFault.TheVariants.{Full}
use Rattle.rs_plan.specs.Freed.{extent_of_body, freed_page, freed_history_page, freed_by_group}
use Rattle.rs_plan.specs.Placed.{AreUnplaced}
use Rattle.rs_plan.specs.PlacedFrom.{IsPlacedFrom, HasNoRoomFrom}
use Rattle.rs_plan.specs.Plans.{IsPlanned, IsFullFor}
use Rattle.rs_plan.specs.Room.{TakesEach, bodies_kept, bodies_needed}
use Rattle.rs_plan.specs.Turned.{lists_after_items, of_each_item, MayDoEach}
use Rattle.rs_plan.proofs.Extents.{could_take, same_taken, taken_each}
use Rattle.rs_plan.proofs.GroupRules.{items_short}
use Rattle.rs_plan.proofs.Grouped.{group_does, may_each, items_unplaced, items_answer}
use Rattle.rs_plan.proofs.Here.{IsAccepted, accepted}
use Rattle.rs_plan.proofs.Lacking.{full_of_bodies}
use Rattle.rs_plan.proofs.planning.grouping.plan_group.Goals as goal
use Rattle.rs_plan.proofs.planning.grouping.plan_group.Goals.{After-types_are_kept, After-drop-freed-4}

-- the lists of the root and the bodies that were found
same : {A : Type 0} (f : Contents → List Extent → A) (c old : Contents) (l bodies : List Extent) (x : A) → c ≡ old → l ≡ bodies → x ≡ f c l → x ≡ f old bodies
same f c old l bodies x at is made = made ∙ ap₂ f at is

-- the directory, and the blocks that the items freed
all_freed : (root root' : Root) → root ≡ root' → (a b e a' b' e' : List Extent) → a ≡ a' → b ≡ b' → e ≡ e' → root.directory ∷ a ++ b ++ e ≡ root'.directory ∷ a' ++ b' ++ e'
all_freed root root' is a b e a' b' e' of_a of_b of_e =
    ap₂ (λ (x : Root) (l : List Extent). x.directory ∷ l ++ b ++ e) is of_a ∙ ap₂ (λ (l k : List Extent). root'.directory ∷ a' ++ l ++ k) of_b of_e

-- the bodies that were found take their places as those that are placed do
takes_placed : (used found after : List Bool) (ns : List ℕ) (bodies : List Extent) → TakesEach used ns bodies found → AreTaken used after bodies
    → TakesEach used ns bodies after
takes_placed used found after ns bodies takes taken =
    subst (λ (l : List Bool). TakesEach used ns bodies l) (same_taken used found after bodies (taken_each used found ns bodies takes) taken) takes

given : (c : After-types_are_kept) → IsAccepted c.args.old.now c.args.moment
given c =
    accepted c.args.old.now _ c.args.moment c.contents-contents.ensures.contents c.page_rule_is_kept.ensures c.contents-contents.ensures.sound c.types_are_kept.ensures.lists
    c.types_are_kept.ensures.moment c.requires.may.later

may : (c : After-types_are_kept) (bodies : List Extent) → MayDoEach c.args.old.now.contents c.args.items.now c.args.moment bodies
may c bodies = may_each c.args.old.now c.args.moment (given c) c.args.items.now c.requires.may bodies

pub find_bodies-requires : goal.find_bodies-requires
find_bodies-requires c =
    let kept = (goal.at.find_bodies-requires c).After-types_are_kept in
    record { short = items_short c.args.items.now c.args.old.now.contents c.args.moment [] (may kept []) }

-- the fault that is handed on
handed : {T : Type 0} (r : Result T PlanFault) (fault : PlanFault) → IsErrAnd r (λ e. e ≡ fault) → IsErrOf r Full → fault ≡ Full
handed (Ok x) fault same full = absurd same
handed (Err e) fault same full = cc

pub returns-in_err-bodies-clause-full : goal.returns-in_err-bodies-clause-full
returns-in_err-bodies-clause-full c full =
    full_of_bodies c.args.old.now (Group c.args.items.now) c.args.moment c.args.used.now c.requires.used
    (c.in_err-bodies.ensures.full (ap (λ (e : PlanFault). Err e) (handed c.from_residual.result c.in_err-bodies.field-0.0 c.from_residual.ensures.1 full)))

pub turn_items-requires : goal.turn_items-requires
turn_items-requires c =
    let kept = (goal.at.turn_items-requires c).After-types_are_kept in
    let bodies = c.deref.result.now in
    record { may = subst (λ (x : Contents). MayDoEach x c.args.items.now c.args.moment bodies) (sym c.contents-contents.ensures.contents) (may kept bodies) }

pub place_lists-requires-clause-unplaced : goal.place_lists-requires-clause-unplaced
place_lists-requires-clause-unplaced c =
    let kept = (goal.at.place_lists-requires-clause-unplaced c).After-types_are_kept in
    let r = c.args.old.now in
    let items = c.args.items.now in
    let moment = c.args.moment in
    let bodies = c.deref.result.now in
    subst AreUnplaced (sym (same (λ x l. lists_after_items x items moment l) _ r.contents _ bodies _ c.contents-contents.ensures.contents refl c.in_ok-lists.ensures.lists))
    (items_unplaced r moment (given kept) (Group items) items (group_does items) bodies (may kept bodies))

pub place_lists-requires-clause-are_free : goal.place_lists-requires-clause-are_free
place_lists-requires-clause-are_free c =
    let found = c.in_ok-bodies.ensures.found in
    subst (λ (used : List Bool). CanTake used c.in_ok-bodies.bodies.items) (sym c.in_ok-bodies.ensures.same)
    (could_take c.args.used.now found.0 c.in_ok-bodies.bodies.items
    (taken_each c.args.used.now found.0 (bodies_needed (bodies_kept c.args.items.now)) c.in_ok-bodies.bodies.items found.1))

both : (c : After-drop-freed-4) → IfOk c.place_lists.result (IsPlanned c.args.old.now (Group c.args.items.now) c.args.moment)
    × (IsErrOf c.place_lists.result Full → IsFullFor c.args.old.now (Group c.args.items.now) c.args.moment)
both c =
    let kept = (goal.at.After-drop-freed-4 c).After-types_are_kept in
    let r = c.args.old.now in
    let items = c.args.items.now in
    let moment = c.args.moment in
    let used = c.args.used.now in
    let bodies = c.in_ok-bodies.bodies.items in
    let at = c.contents-contents.ensures.contents in
    let found = c.in_ok-bodies.ensures.found in
    let start = c.in_ok-bodies.ensures.same in
    let turned = c.in_ok-lists.ensures in
    let lists = c.in_ok-lists.lists in
    let gone = c.in_ok-freed.freed.items in
    let each : (f : Contents → List ℕ → List Extent) (l : List Extent) → l ≡ of_each_item f c.contents-contents.result.now items moment c.deref.result.now
    → l ≡ of_each_item f r.contents items moment bodies =
    λ f l is. same (λ x k. of_each_item f x items moment k) _ r.contents _ bodies l at c.deref.ensures.value is in
    let freed : gone ≡ freed_by_group r items moment bodies =
    c.in_ok-freed.ensures
    ∙ all_freed c.root.result.now r.root c.root.ensures _ _ _ _ _ _ (each freed_page _ turned.pages) (each freed_history_page _ turned.history) (each extent_of_body _ turned.bodies) in
    items_answer r moment (given kept) (Group items) items (group_does items) bodies (may kept bodies) used c.requires.used
    (λ after taken. takes_placed used found.0 after (bodies_needed (bodies_kept items)) bodies found.1 taken) c.place_lists.result (Grouped (length items) moment) gone lists
    (same (λ x l. lists_after_items x items moment l) _ r.contents _ bodies lists at c.deref.ensures.value turned.lists) (λ image. refl) freed
    (subst (λ (u : List Bool). IfOk c.place_lists.result (IsPlacedFrom u bodies lists (Grouped (length items) moment) gone)) start c.place_lists.ensures.placed)
    (λ full. subst (λ (u : List Bool). HasNoRoomFrom u bodies lists) start (c.place_lists.ensures.full full))

pub returns-clause-planned : goal.returns-clause-planned
returns-clause-planned c = (both c).0

pub returns-clause-full : goal.returns-clause-full
returns-clause-full c = (both c).1

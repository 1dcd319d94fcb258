-- The plan of a command that does items one after another keeps all rules. A put and a delete do one item, a group does
-- all its items.
use Rattle.std.proofs.Common.{◌≡◌, inl, ℕ, ◌+◌, Bool, List, [], ◌∷◌, ◌++◌, length, map, max, Result, refl, sym, ◌∙◌, ap, ap₂, subst, arith}
use Rattle.std.specs.Prelude.{All, IfOk, IsErrOf}
use Rattle.std.specs.List.{AllZip, AllByRecursion}
use Rattle.std.proofs.lemmas.List.{append-nil}
use Rattle.rs_body.specs.Blocks.{IsSized}
use Rattle.rs_extent.specs.declared.Extent.{Extent}
use Rattle.rs_extent.specs.Extents.{in_some, AreApart, AreDisjoint, AreTaken}
use Rattle.rs_record.specs.declared.record.Record.{Record}
use Rattle.rs_page.specs.Pages.{stored_refs, extents_of}
use Rattle.rs_pages.specs.Laws.{Ascend}
use Rattle.rs_pages.specs.Storing.{unshared}
use Rattle.rs_catalogue.specs.Catalogue.{records_of}
use Rattle.rs_model.specs.declared.command.Item.{Item}
use Rattle.rs_model.specs.declared.command.Item.TheVariants as single
use Rattle.rs_model.specs.declared.command.Command.{Command}
use Rattle.rs_model.specs.declared.command.Command.TheVariants.{Put, Delete, Group}
use Rattle.rs_model.specs.declared.command.Reply.{Reply}
use Rattle.rs_model.specs.Grouping.{name_of}
use Rattle.rs_model.specs.State.{Source}
use Rattle.rs_model.specs.Step.{after_put, after_delete, after_items, causes, next_state, reply_to}
use Rattle.rs_plan.proofs.FromBelow.{no_causes}
use Rattle.rs_image.specs.declared.contents.Contents.{Contents}
use Rattle.rs_image.specs.Rooted.{Rooted, AreUsed}
use Rattle.rs_image.specs.StateOfImage.{held_in, state_in}
use Rattle.rs_image.specs.Whole.{IsSoundRecord}
use Rattle.rs_plan.specs.declared.plan.Plan.{Plan}
use Rattle.rs_plan.specs.declared.planning.PlanFault.{PlanFault}
use Rattle.rs_plan.specs.declared.planning.PlanFault.TheVariants.{Full}
use Rattle.rs_plan.specs.Allowed.{MayDoItem, MayGroup}
use Rattle.rs_plan.specs.Freed.{extent_of_body, freed_page, freed_history_page, freed_by_change, freed_by_group}
use Rattle.rs_plan.specs.Placed.{AreUnplaced}
use Rattle.rs_plan.specs.PlacedFrom.{IsPlacedFrom, HasNoRoomFrom}
use Rattle.rs_plan.specs.Plans.{IsNext, IsPlanned, IsFullFor, lists_after}
use Rattle.rs_plan.specs.Room.{HasNoRoom, TakesEach, bodies_kept, bodies_needed, bodies_of_command, lists_needed}
use Rattle.rs_plan.specs.Turned.{lists_after_items, of_each_item, MayDoEach}
use Rattle.rs_plan.proofs.Lacking.{full_for}
use Rattle.rs_plan.proofs.Placing.{all_unplaced}
use Rattle.rs_plan.proofs.GivenBack.{Frees}
use Rattle.rs_plan.proofs.GroupBodies.{bodies_turn}
use Rattle.rs_plan.proofs.GroupPages.{pages_lost, history_pages_lost, freed_pages, freed_history_pages, keeps_after, unplaced_after, loses_pages, loses_history_pages}
use Rattle.rs_plan.proofs.GroupRules.{IsNoCause, may_do_each, rules_after}
use Rattle.rs_plan.proofs.GroupStates.{entries_held, group_turns, last_grows, start_stays, records_sound}
use Rattle.rs_plan.proofs.Here.{IsAccepted, answered}
use Rattle.rs_plan.proofs.Parts.{bodies_in, published_after, sized_each}
use Rattle.rs_plan.proofs.Planned.{planned}
use Rattle.rs_plan.proofs.Rules.{KeepsRules, rules_of, later_records}

-- A command does these items one after another: its bodies, its step and the pages after it are theirs.
pub record DoesItems (command : Command) (items : List Item) : Type 0 where
  pub bodies : bodies_of_command command ≡ bodies_kept items
  pub turns : (s : Source) (t : ℕ) → max t (s.last + 1) ≡ t → after_items s items t ≡ next_state s command t
  pub lists : (old : Contents) (t : ℕ) (bodies : List Extent) → lists_after_items old items t bodies ≡ lists_after old command t bodies

pub put_does : (name kind bytes : List ℕ) → DoesItems (Put name kind bytes) (single.Put name kind bytes ∷ [])
put_does name kind bytes = record { bodies = refl; turns = λ s t is. ap (after_put s name kind bytes) is; lists = λ old t bodies. refl }

pub delete_does : (name : List ℕ) → DoesItems (Delete name) (single.Delete name ∷ [])
delete_does name = record { bodies = refl; turns = λ s t is. ap (after_delete s name) is; lists = λ old t bodies. refl }

pub group_does : (items : List Item) → DoesItems (Group items) items
group_does items = record { bodies = refl; turns = λ s t is. refl; lists = λ old t bodies. refl }

-- Every item may be done in the lists before it: one item where it may be done alone, and all of an accepted group.
pub may_one : (r : Rooted) (moment : ℕ) → IsAccepted r moment → (item : Item) → MayDoItem r.contents item moment → (bodies : List Extent)
    → MayDoEach r.contents (item ∷ []) moment bodies
may_one r moment given item may bodies = (given.is_moment, given.sound.whole.moments, may, tt)

pub may_each : (r : Rooted) (moment : ℕ) → IsAccepted r moment → (items : List Item) → MayGroup r.contents items moment → (bodies : List Extent)
    → MayDoEach r.contents items moment bodies
may_each r moment given items may bodies =
    let none : AllByRecursion IsNoCause (causes (state_in may.image r.contents) (Group items) moment) =
    no_causes (causes (state_in may.image r.contents) (Group items) moment) may.accepted in
    may_do_each given.law items r.contents (map (held_in may.image) (records_of r.contents.catalogue)) moment moment bodies given.lawful.held.ordered
    (entries_held may.image r.contents) (rules_of r.size r.root r.contents given.sound.whole given.sound.listable.header) given.is_moment (omega (arith, given.later)) none.1

-- the blocks that one item frees
pub frees_one : (r : Rooted) (item : Item) (moment : ℕ) (bodies : List Extent) → freed_by_change r (name_of item) ≡ freed_by_group r (item ∷ []) moment bodies
frees_one r item moment bodies =
    let name = name_of item in
    let page = freed_page r.contents name in
    let history_page = freed_history_page r.contents name in
    let body = extent_of_body r.contents name in
    ap₂ (λ (a b : List Extent). r.root.directory ∷ a ++ b ++ body) (sym (append-nil page)) (sym (append-nil history_page))
    ∙ ap (λ (l : List Extent). r.root.directory ∷ (page ++ []) ++ (history_page ++ []) ++ l) (sym (append-nil body))

module _ (r : Rooted) (moment : ℕ) (given : IsAccepted r moment) (command : Command) (items : List Item) (does : DoesItems command items) (bodies : List Extent)
    (may : MayDoEach r.contents items moment bodies) where
  abbrev old : Contents
  old = r.contents

  ordered : Ascend (λ (r : Record). r.name) old.catalogue
  ordered = given.lawful.held.ordered

  -- The lists after the items.
  abbrev final : Contents
  final = lists_after_items old items moment bodies

  pub items_unplaced : AreUnplaced final
  items_unplaced = unplaced_after given.law items old moment bodies (all_unplaced old given.sound.whole.catalogue given.sound.whole.history)

  next : IsNext old command moment bodies final
  next = record {
    turns = λ image there. group_turns given.law image old items moment bodies ordered given.later (subst (AllZip _ bodies) does.bodies there)
        ∙ does.turns (state_in image old) moment (omega (arith, given.later));
    catalogue = (keeps_after given.law items old moment bodies).0;
    history = (keeps_after given.law items old moment bodies).1;
  }

  rules : KeepsRules final
  rules = rules_after given.law items old moment bodies (rules_of r.size r.root old given.sound.whole given.sound.listable.header) may

  abbrev AreSized : Type 0
  AreSized = AllZip (λ extent bytes. IsSized extent (length bytes)) bodies (bodies_kept items)

  records : AreSized → All (IsSoundRecord final.header.start final.header.last) (records_of final.catalogue)
  records sized =
      let whole = given.sound.whole in
      let grows = last_grows items old moment bodies (omega (arith, given.later)) in
      subst (λ (start : ℕ). All (IsSoundRecord start final.header.last) (records_of final.catalogue)) (sym (start_stays items old moment bodies))
      (records_sound given.law old.header.start final.header.last items old moment bodies ordered sized may
      (omega (arith, whole.moments.start, whole.moments.at, given.later)) (omega arith)
      (later_records old.header.start old.header.last final.header.last (records_of old.catalogue) grows whole.records))

  frees : (freed : List Extent) → freed ≡ freed_by_group r items moment bodies → AreSized → AreApart bodies → AreApart (bodies_in old)
      → AreDisjoint (in_some bodies) (in_some (bodies_in old)) → Frees r.root.directory old bodies final freed
  frees freed is sized free apart beside =
      let gone = of_each_item extent_of_body old items moment bodies in
      let turn = bodies_turn given.law items old moment bodies ordered sized free apart beside in
      let both : List Extent =
      r.root.directory ∷ extents_of (unshared (pages_lost old items moment bodies) (stored_refs old.published)) ++ extents_of (history_pages_lost old items moment bodies) in
      inl (record {
        pages = pages_lost old items moment bodies;
        changes = history_pages_lost old items moment bodies;
        gone = gone;
        parts = is ∙ ap₂ (λ (a b : List Extent). r.root.directory ∷ a ++ b ++ gone) (freed_pages items old moment bodies) (freed_history_pages items old moment bodies)
            ∙ ap (λ (l : List Extent). l ++ gone) (sym (append-nil both));
        catalogue = loses_pages given.law items old moment bodies ordered may;
        history = loses_history_pages given.law items old moment bodies;
        bodies = turn.turns;
        apart = turn.apart;
        published = published_after items old moment bodies;
      })

  -- With the bodies where they were found, there is no room, or a plan.
  module _ (used : List Bool) (are_used : AreUsed r used)
      (found : (after : List Bool) → AreTaken used after bodies → TakesEach used (bodies_needed (bodies_of_command command)) bodies after) where
    pub items_lack : HasNoRoomFrom used bodies final → IsFullFor r command moment
    items_lack room =
        full_for r command moment used are_used bodies room.after_bodies (found room.after_bodies room.takes)
        (subst (λ (c : Contents). HasNoRoom room.after_bodies (lists_needed c)) (does.lists old moment bodies) room.fails)

    pub items_planned : (told : Reply) (gone : List Extent) (p : Plan) → ((image : List ℕ) → told ≡ reply_to (state_in image old) command moment)
        → gone ≡ freed_by_group r items moment bodies → IsPlacedFrom used bodies final told gone p → IsPlanned r command moment p
    items_planned told gone p reply freed from =
        let takes = found from.after_bodies from.takes in
        let sized : AreSized = subst (AllZip (λ extent bytes. IsSized extent (length bytes)) bodies) does.bodies
        (sized_each (bodies_of_command command) used from.after_bodies bodies takes) in
        planned r.size r.root old given.sound command moment used from.after_bodies are_used bodies takes final (does.lists old moment bodies) next rules (records sized) items_unplaced p from.placed
        (λ image. from.reply ∙ reply image) from.lists (frees p.freed.items (from.freed ∙ freed) sized) from.taken

    -- so the answer of placing these lists is an answer of the command
    pub items_answer : (result : Result Plan PlanFault) (told : Reply) (gone : List Extent) (lists : Contents) → lists ≡ final
        → ((image : List ℕ) → told ≡ reply_to (state_in image old) command moment) → gone ≡ freed_by_group r items moment bodies
        → IfOk result (IsPlacedFrom used bodies lists told gone) → (IsErrOf result Full → HasNoRoomFrom used bodies lists)
        → IfOk result (IsPlanned r command moment) × (IsErrOf result Full → IsFullFor r command moment)
    items_answer result told gone lists is reply freed placed full =
        answered (IsPlanned r command moment) (IsFullFor r command moment) result used bodies lists final told gone is (λ p from. items_planned told gone p reply freed from)
        items_lack placed full

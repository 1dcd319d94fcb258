use Rattle.std.proofs.Common.{◌≡◌, ℕ, ◌+◌, Bool, true, false, List, ◌∷◌, ◌++◌, Option, Some, None, if◌then◌else◌, sym, ◌∙◌, ap, ap₂, subst, append_assoc, nat_le}
use Rattle.rs_time.specs.Moment.{moment_of, greatest}
use Rattle.rs_extent.specs.declared.Extent.{Extent}
use Rattle.rs_model.specs.Grouping.{name_of}
use Rattle.rs_model.specs.declared.command.Item.{Item}
use Rattle.rs_image.specs.declared.contents.Contents.{Contents}
use Rattle.rs_plan.specs.Freed.{freed_page, freed_history_page, extent_of_body}
use Rattle.rs_plan.specs.Turned.{extent_for, extents_left, lists_after_item, lists_after_items, of_each_item, MayDoEach}
use Rattle.rs_plan.proofs.planning.grouping.turn_items.Goals as goal

-- a moment is the one of its milliseconds
by_test : (ms t : ℕ) (b : Bool) → (if b then Some ms else None) ≡ Some t → t ≡ ms
by_test ms t true is = cc
by_test ms t false is = cc

its_moment : (ms t : ℕ) (r : Option ℕ) → r ≡ moment_of ms → r ≡ Some t → t ≡ ms
its_moment ms t r is some = by_test ms t (nat_le ms greatest) (sym is ∙ some)

-- One item is turned.
module _ (c next : Contents) (rest later : List Item) (item : Item) (ms t : ℕ) (left others : List Extent) (body : Extent) (split : rest ≡ item ∷ later) (time : t ≡ ms)
    (body_is : body ≡ extent_for item later left) (others_are : others ≡ extents_left item later left) (made : next ≡ lists_after_item c item t body) where
  next_is : next ≡ lists_after_item c item ms (extent_for item later left)
  next_is = made ∙ ap₂ (λ (n : ℕ) (e : Extent). lists_after_item c item n e) time body_is

  may_turn : MayDoEach c rest ms left → MayDoEach next later (ms + 1) others
  may_turn may =
      subst (λ (x : Contents). MayDoEach x later (ms + 1) others) (sym next_is)
      (subst (λ (l : List Extent). MayDoEach (lists_after_item c item ms (extent_for item later left)) later (ms + 1) l) (sym others_are)
      (subst (λ (l : List Item). MayDoEach c l ms left) split may).3)

  lists_turn : lists_after_items next later (ms + 1) others ≡ lists_after_items c rest ms left
  lists_turn =
      ap₂ (λ (x : Contents) (l : List Extent). lists_after_items x later (ms + 1) l) next_is others_are ∙ ap (λ (l : List Item). lists_after_items c l ms left) (sym split)

  freed_turn : (f : Contents → List ℕ → List Extent) (freed more all : List Extent) (name : List ℕ) → name ≡ name_of item → more ≡ freed ++ f c name
      → freed ++ of_each_item f c rest ms left ≡ all → more ++ of_each_item f next later (ms + 1) others ≡ all
  freed_turn f freed more all name named more_is so_far =
      ap₂ (λ (l k : List Extent). l ++ k) (more_is ∙ ap (λ (n : List ℕ). freed ++ f c n) named)
      (ap₂ (λ (x : Contents) (l : List Extent). of_each_item f x later (ms + 1) l) next_is others_are)
      ∙ append_assoc freed (f c (name_of item)) (of_each_item f (lists_after_item c item ms (extent_for item later left)) later (ms + 1) (extents_left item later left))
      ∙ ap (λ (l : List Item). freed ++ of_each_item f c l ms left) (sym split) ∙ so_far

pub loop-item-preserved : goal.loop-item-preserved
loop-item-preserved c =
    let inv = c.loop-item.invariant in
    let now = c.loop-item.lists in
    let next = c.in_ok-lists-2.lists in
    let rest = c.loop-item.rest.now in
    let later = c.in-Some.later.now in
    let item = c.in-Some.item.now in
    let ms = c.loop-item.ms in
    let t = c.unwrap.result in
    let left = c.loop-item.left.now in
    let others = c.body_for.result.1.now in
    let body = c.body_for.result.0 in
    let split : rest ≡ item ∷ later = c.in-Some.ensures.cases.0 in
    let time : t ≡ ms = its_moment ms t c.new.result c.new.ensures c.unwrap.ensures in
    let body_is = c.body_for.ensures.body in
    let others_are = c.body_for.ensures.others in
    let made = c.in_ok-lists-2.ensures in
    let name = c.name.result.now in
    record {
      may = may_turn now next rest later item ms t left others body split time body_is others_are made inv.may;
      lists_are = lists_turn now next rest later item ms t left others body split time body_is others_are made ∙ inv.lists_are;
      pages = freed_turn now next rest later item ms t left others body split time body_is others_are made freed_page c.loop-item.freed.pages.items c.add.new.self.pages.items _ name
          c.name.ensures c.in_ok-add.ensures.pages inv.pages;
      history = freed_turn now next rest later item ms t left others body split time body_is others_are made freed_history_page c.loop-item.freed.history_pages.items
          c.add.new.self.history_pages.items _ name c.name.ensures c.in_ok-add.ensures.history inv.history;
      bodies_are = freed_turn now next rest later item ms t left others body split time body_is others_are made extent_of_body c.loop-item.freed.bodies.items
          c.add.new.self.bodies.items _ name c.name.ensures c.in_ok-add.ensures.bodies inv.bodies_are;
    }

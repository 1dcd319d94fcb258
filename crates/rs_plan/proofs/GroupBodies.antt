-- The bodies after the items of a group: the removed bodies, and the bodies that replace them.
use Rattle.std.proofs.Common.{true≢false, ◌≡◌, inl, inr, ℕ, ◌+◌, Bool, true, false, ◌||◌, not, List, [], ◌∷◌, ◌++◌, length, Some, None, if◌then◌else◌, refl, sym, ◌∙◌, ap, subst}
use Rattle.std.specs.Prelude.{◌≢◌, bytes_eq}
use Rattle.std.specs.List.{AllZip}
use Rattle.std.specs.declared.cmp.Ordering.{Ordering}
use Rattle.std.specs.declared.cmp.Ordering.TheVariants.{Less, Equal, Greater}
use Rattle.std.proofs.lemmas.Slice.Eq.{bytes_eq-Decides}
use Rattle.rs_extent.specs.declared.Extent.{Extent}
use Rattle.rs_extent.specs.Extents.{in_some, AreApart, AreDisjoint, IsSubset}
use Rattle.rs_plan.proofs.FromBelow.{not_true, not_both, some_first, some_rest, in_one, some_behind, apart_behind, apart_between, value-bind, other-bind, other-unbind}
use Rattle.rs_body.specs.Blocks.{IsSized}
use Rattle.rs_record.specs.declared.record.Record.{Record}
use Rattle.rs_pages.specs.Laws.{Ascend}
use Rattle.rs_catalogue.specs.Catalogue.{records_of}
use Rattle.rs_catalogue.specs.Named.{named}
use Rattle.rs_model.specs.Grouping.{name_of}
use Rattle.rs_model.specs.Names.{by_bytes, by_order, value_of}
use Rattle.rs_model.specs.declared.command.Item.{Item}
use Rattle.rs_model.specs.declared.command.Item.TheVariants as single
use Rattle.rs_image.specs.declared.contents.Contents.{Contents}
use Rattle.rs_image.specs.Reach.{bodies_of}
use Rattle.rs_plan.specs.Drafts.{IsPageRuleKept}
use Rattle.rs_plan.specs.Freed.{extent_of_body}
use Rattle.rs_plan.specs.Placed.{record_made}
use Rattle.rs_plan.specs.Room.{is_named_in, bodies_kept}
use Rattle.rs_plan.specs.Turned.{no_body, first_of, extent_for, extents_left, lists_after_item, lists_after_items, of_each_item}
use Rattle.rs_plan.proofs.Freed.{PartTurns}
use Rattle.rs_plan.proofs.FreedParts.{none_in, replaced, apart_replaced, nowhere}
use Rattle.rs_plan.proofs.ItemSteps.{bodies_cut, fits_step, made_by, made_for, map_after, records_step, body_lost}
use Rattle.rs_plan.proofs.Losing.{turns_both}
use Rattle.rs_plan.proofs.Parts.{bodies_in}

-- a record that has a name has its blocks among the bodies
found_by : (name : List ℕ) (r x : Record) (records : List Record) (k : ℕ) (o : Ordering) → by_order o None (Some x) (value_of name (named records)) ≡ Some r
    → (value_of name (named records) ≡ Some r → in_some (bodies_of records) k ≡ true) → in_some (r.extent ∷ []) k ≡ true → in_some (bodies_of (x ∷ records)) k ≡ true
found_by name r x records k Less is later here = cc
found_by name r x records k Equal is later here =
    let same : x ≡ r = cc in
    some_first x.extent (bodies_of records) k (in_one x.extent k (subst (λ (y : Record). in_some (y.extent ∷ []) k ≡ true) (sym same) here))
found_by name r x records k Greater is later here = some_rest x.extent (bodies_of records) k (later is)

found_in : (name : List ℕ) (r : Record) (records : List Record) (k : ℕ) → value_of name (named records) ≡ Some r → in_some (r.extent ∷ []) k ≡ true
    → in_some (bodies_of records) k ≡ true
found_in name r [] k is here = cc
found_in name r (x ∷ records) k is here = found_by name r x records k (by_bytes name x.name) is (λ rest. found_in name r records k rest here) here

-- two tests that both fail
neither : (s t : Bool) → (s || t) ≡ false → (s ≡ false) × (t ≡ false)
neither true t h = absurd (true≢false h)
neither false t h = (refl, h)

-- names that are not the same differ
differ : (name other : List ℕ) → bytes_eq other name ≡ false → name ≢ other
differ name other h same = not_both (bytes_eq other name) ((bytes_eq-Decides other name).1 (sym same)) h

-- the first item's body, if it is not written, has no blocks
no_block_made : (old gone new : List Extent) (e : Extent) (t : Bool) → PartTurns old gone new ((if t then e else no_body) ∷ []) → PartTurns old gone new (if t then e ∷ [] else [])
no_block_made old gone new e true turns = turns
no_block_made old gone new e false turns = record {
  reached = turns.reached;
  apart = turns.apart;
  comes = λ k is. elim (turns.comes k is) [ inl left ↦ inl left | inr none ↦ nowhere k _ none ];
  stays = turns.stays;
  written = λ k is. none_in k _ is;
}

first_beside : (bodies : List Extent) (other : ℕ → Bool) (t : Bool) → AreDisjoint (in_some bodies) other → AreDisjoint (in_some ((if t then first_of bodies else no_body) ∷ [])) other
first_beside bodies other false beside k is = nowhere k _ is
first_beside [] other true beside k is = nowhere k _ is
first_beside (e ∷ bodies) other true beside k is = beside k (some_first e bodies k (in_one e k is))

made_beside : (item : Item) (items : List Item) (bodies : List Extent) (other : ℕ → Bool) → AreDisjoint (in_some bodies) other
    → AreDisjoint (in_some (made_by item (extent_for item items bodies))) other
made_beside (single.Put name kind bytes) items bodies other beside k is = first_beside bodies other (not (is_named_in name items)) beside k is
made_beside (single.Delete name) items bodies other beside k is = none_in k _ is

made_alone : (item : Item) (body : Extent) → AreApart (made_by item body)
made_alone (single.Put name kind bytes) body = (λ k is. refl, tt)
made_alone (single.Delete name) body = tt

-- The bodies after items: the removed bodies, and the written bodies that replace them, apart from the others.
pub record BodiesTurn (old gone new made : List Extent) : Type 0 where
  pub turns : PartTurns old gone new made
  pub apart : AreApart new

module _ (law : IsPageRuleKept) where
  -- A name keeps its record where no item has it.
  stays_step : (c : Contents) (item : Item) (moment : ℕ) (body : Extent) (name : List ℕ) → Ascend (λ (r : Record). r.name) c.catalogue → bytes_eq name (name_of item) ≡ false
      → value_of name (map_after item moment body (named (records_of c.catalogue))) ≡ value_of name (named (records_of c.catalogue))
  stays_step c (single.Put other kind bytes) moment body name ordered none =
      other-bind other name (record_made other kind bytes body moment) (named (records_of c.catalogue)) (differ other name none)
  stays_step c (single.Delete other) moment body name ordered none = other-unbind other name (named (records_of c.catalogue)) (differ other name none) ordered

  stays_named : (items : List Item) (c : Contents) (moment : ℕ) (bodies : List Extent) (name : List ℕ) → Ascend (λ (r : Record). r.name) c.catalogue
      → is_named_in name items ≡ false
      → value_of name (named (records_of (lists_after_items c items moment bodies).catalogue)) ≡ value_of name (named (records_of c.catalogue))
  stays_named [] c moment bodies name ordered none = refl
  stays_named (item ∷ items) c moment bodies name ordered none =
      let body = extent_for item items bodies in
      let step = records_step law item moment body c.catalogue ordered in
      let both = neither (bytes_eq name (name_of item)) (is_named_in name items) none in
      stays_named items (lists_after_item c item moment body) (moment + 1) (extents_left item items bodies) name step.1 both.1
      ∙ ap (value_of name) step.0 ∙ stays_step c item moment body name ordered both.0

  -- So the body of an item that is written is there at the end.
  made_by_test : (bodies : List Extent) (k : ℕ) (t : Bool) (P : Type 0) → in_some (if not t then first_of bodies ∷ [] else []) k ≡ true
      → (t ≡ false → in_some ((if not t then first_of bodies else no_body) ∷ []) k ≡ true → P) → P
  made_by_test bodies k true P is told = none_in k P is
  made_by_test bodies k false P is told = told refl is

  made_stays : (c : Contents) (item : Item) (items : List Item) (moment : ℕ) (bodies : List Extent) → Ascend (λ (r : Record). r.name) c.catalogue
      → IsSubset (in_some (made_for item items bodies)) (in_some (bodies_in (lists_after_items c (item ∷ items) moment bodies)))
  made_stays c (single.Put name kind bytes) items moment bodies ordered k is =
      let item : Item = single.Put name kind bytes in
      let body = extent_for item items bodies in
      let left = extents_left item items bodies in
      let next = lists_after_item c item moment body in
      let made = record_made name kind bytes body moment in
      let step = records_step law item moment body c.catalogue ordered in
      let final = lists_after_items next items (moment + 1) left in
      made_by_test bodies k (is_named_in name items) (in_some (bodies_in final) k ≡ true) is
      (λ none here. found_in name made (records_of final.catalogue) k
      (stays_named items next (moment + 1) left name step.1 none ∙ (ap (value_of name) step.0 ∙ value-bind name made (named (records_of c.catalogue)))) here)
  made_stays c (single.Delete name) items moment bodies ordered k is = none_in k _ is

  -- the bodies after one item
  step_turns : (c : Contents) (item : Item) (items : List Item) (moment : ℕ) (bodies : List Extent) → Ascend (λ (r : Record). r.name) c.catalogue → AreApart (bodies_in c)
      → PartTurns (bodies_in c) (extent_of_body c (name_of item)) (bodies_in (lists_after_item c item moment (extent_for item items bodies))) (made_for item items bodies)
  step_turns c (single.Put name kind bytes) items moment bodies ordered apart =
      let item : Item = single.Put name kind bytes in
      let body = extent_for item items bodies in
      let next = lists_after_item c item moment body in
      no_block_made (bodies_in c) (extent_of_body c name) (bodies_in next) (first_of bodies) (not (is_named_in name items))
      (replaced (bodies_in c) (bodies_in next) (extent_of_body c name) (body ∷ []) (body_lost law c item moment body ordered) apart)
  step_turns c (single.Delete name) items moment bodies ordered apart =
      let item : Item = single.Delete name in
      let next = lists_after_item c item moment no_body in
      replaced (bodies_in c) (bodies_in next) (extent_of_body c name) [] (body_lost law c item moment no_body ordered) apart

  step_apart : (c : Contents) (item : Item) (items : List Item) (moment : ℕ) (bodies : List Extent) → Ascend (λ (r : Record). r.name) c.catalogue → AreApart (bodies_in c)
      → AreDisjoint (in_some bodies) (in_some (bodies_in c)) → AreApart (bodies_in (lists_after_item c item moment (extent_for item items bodies)))
  step_apart c item items moment bodies ordered apart beside =
      let body = extent_for item items bodies in
      apart_replaced (bodies_in c) (bodies_in (lists_after_item c item moment body)) (extent_of_body c (name_of item)) (made_by item body)
      (body_lost law c item moment body ordered) apart (made_alone item body) (made_beside item items bodies (in_some (bodies_in c)) beside)

  abbrev HasBlocks : Extent → List ℕ → Type 0
  HasBlocks extent bytes = IsSized extent (length bytes)

  pub bodies_turn : (items : List Item) (c : Contents) (moment : ℕ) (bodies : List Extent) → Ascend (λ (r : Record). r.name) c.catalogue
      → AllZip HasBlocks bodies (bodies_kept items) → AreApart bodies → AreApart (bodies_in c) → AreDisjoint (in_some bodies) (in_some (bodies_in c))
      → BodiesTurn (bodies_in c) (of_each_item extent_of_body c items moment bodies) (bodies_in (lists_after_items c items moment bodies)) bodies
  bodies_turn [] c moment [] ordered sized free apart beside = record {
    turns = record {
      reached = λ k is. none_in k _ is;
      apart = tt;
      comes = λ k is. inl (is, refl);
      stays = λ k is. inr is;
      written = λ k is. none_in k _ is;
    };
    apart = apart;
  }
  bodies_turn [] c moment (e ∷ bodies) ordered sized free apart beside = absurd sized
  bodies_turn (item ∷ items) c moment bodies ordered sized free apart beside =
      let body = extent_for item items bodies in
      let left = extents_left item items bodies in
      let made = made_for item items bodies in
      let next = lists_after_item c item moment body in
      let final = lists_after_items next items (moment + 1) left in
      let cut : bodies ≡ made ++ left = bodies_cut HasBlocks item items bodies sized in
      let free_cut : AreApart (made ++ left) = subst AreApart cut free in
      let beside_cut : AreDisjoint (in_some (made ++ left)) (in_some (bodies_in c)) = subst (λ (l : List Extent). AreDisjoint (in_some l) (in_some (bodies_in c))) cut beside in
      let first = step_turns c item items moment bodies ordered apart in
      let beside_left : AreDisjoint (in_some left) (in_some (bodies_in next)) =
      λ k is. not_true (in_some (bodies_in next) k) (λ here. elim (first.comes k here) [
        | inl stayed ↦ not_both (in_some (bodies_in c) k) stayed.0 (beside_cut k (some_behind made left k is))
        | inr new ↦ not_both (in_some left k) is (apart_between made left free_cut k new)
      ]) in
      let others = bodies_turn items next (moment + 1) left (records_step law item moment body c.catalogue ordered).1 (fits_step HasBlocks item items bodies sized).1
      (apart_behind made left free_cut) (step_apart c item items moment bodies ordered apart beside) beside_left in
      let gone = of_each_item extent_of_body next items (moment + 1) left in
      let kept : AreDisjoint (in_some made) (in_some gone) =
      λ k is. elim (others.turns.comes k (made_stays c item items moment bodies ordered k is)) [
        | inl stayed ↦ stayed.1
        | inr new ↦ absurd (not_both (in_some left k) new (apart_between made left free_cut k is))
      ] in
      record {
        turns = subst (PartTurns (bodies_in c) (extent_of_body c (name_of item) ++ gone) (bodies_in final)) (sym cut)
            (turns_both (bodies_in c) (extent_of_body c (name_of item)) (bodies_in next) made gone (bodies_in final) left first others.turns kept);
        apart = others.apart;
      }

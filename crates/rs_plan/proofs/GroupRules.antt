-- Every item of a group that is accepted may be done in its turn, and the lists keep the rules.
use Rattle.std.proofs.Common.{true≢false, ◌≡◌, ℕ, ◌+◌, ◌<◌, ◌≤◌, Bool, true, false, ◌&&◌, List, [], ◌∷◌, length, max, Option, Some, None, refl, sym, ◌∙◌, ap, subst, arith}
use Rattle.std.specs.Prelude.{IsNone, IsSome, is_none, is_some, nat_le}
use Rattle.std.specs.List.{AllByRecursion}
use Rattle.std.proofs.lemmas.List.{length-map}
use Rattle.rs_time.specs.Moment.{IsMoment, greatest}
use Rattle.rs_extent.specs.declared.Extent.{Extent}
use Rattle.rs_record.specs.declared.record.Record.{Record}
use Rattle.rs_pages.specs.Laws.{Ascend}
use Rattle.rs_catalogue.specs.Catalogue.{records_of}
use Rattle.rs_catalogue.specs.Named.{named}
use Rattle.rs_changes.specs.History.{changes_of}
use Rattle.rs_model.specs.declared.value.Held.{Held}
use Rattle.rs_model.specs.declared.command.Item.{Item}
use Rattle.rs_model.specs.declared.command.Item.TheVariants as single
use Rattle.rs_model.specs.declared.command.Refusal.{Refusal}
use Rattle.rs_model.specs.declared.value.Entry.{Entry}
use Rattle.rs_model.specs.State.{Source}
use Rattle.rs_model.specs.Step.{after_item, item_causes, items_causes}
use Rattle.rs_model.specs.Names.{Names, value_of}
use Rattle.rs_plan.proofs.FromBelow.{below_if, at_most_if}
use Rattle.rs_image.specs.declared.contents.Contents.{Contents}
use Rattle.rs_plan.specs.Allowed.{MayDoItem, IsShort}
use Rattle.rs_plan.specs.Drafts.{IsPageRuleKept}
use Rattle.rs_plan.specs.Turned.{change_of_item, extent_for, extents_left, lists_after_item, lists_after_items, MayDoEach}
use Rattle.rs_plan.proofs.Drafts.{split}
use Rattle.rs_plan.proofs.GroupStates.{model_at, held_after, HasEntries, held_as, entries_step, state_step}
use Rattle.rs_plan.proofs.ItemSteps.{change_moment, change_short, records_step}
use Rattle.rs_plan.proofs.Rules.{KeepsRules, changed}

-- there is no cause
abbrev pub IsNoCause : Bool × Refusal → Type 0
IsNoCause cause = cause.0 ≡ false

-- the resources that are held are as many as the records
held_many : (c : Contents) (held : Names Held) → HasEntries c held → length held ≡ length (records_of c.catalogue)
held_many c held same =
    sym (length-map held _) ∙ ap (λ (m : Names Entry). length m) same ∙ length-map (named (records_of c.catalogue)) _ ∙ length-map (records_of c.catalogue) _

-- a name that is not held has no record
not_held : {A B : Type 0} (o : Option A) (p : Option B) → is_some o ≡ is_some p → IsNone p → is_none o ≡ true
not_held None p same none = refl
not_held (Some x) None same none = cc
not_held (Some x) (Some y) same none = cc

held_so : {A B : Type 0} (o : Option A) (p : Option B) → is_some o ≡ is_some p → is_none o ≡ false → IsSome p
held_so None p same isnt = cc
held_so (Some x) p same isnt = sym same

first_only : (s t : Bool) → (s && t) ≡ false → s ≡ true → t ≡ false
first_only true t h is = h
first_only false t h is = absurd (true≢false (sym is))

may_do_item : (c : Contents) (held : Names Held) (item : Item) (moment : ℕ) → HasEntries c held → AllByRecursion IsNoCause (item_causes (model_at c held) item)
    → c.header.last < moment → MayDoItem c item moment
may_do_item c held (single.Put name kind bytes) moment same none later = record {
  body = at_most_if 16777216 (length bytes) none.0;
  resources = λ alone. omega (
    arith,
    held_many c held same,
    below_if 50000 (length held)
        (first_only (is_none (value_of name held)) (nat_le 50000 (length held)) none.1.0
        (not_held (value_of name held) (value_of name (named (records_of c.catalogue))) (held_as c held name same) alone)),
  );
  change = record { changes = below_if 50000 (length (changes_of c.history.pages)) none.1.1.0; later = later };
}
may_do_item c held (single.Delete name) moment same none later = record {
  held = held_so (value_of name held) (value_of name (named (records_of c.catalogue))) (held_as c held name same) none.0;
  change = record { changes = below_if 50000 (length (changes_of c.history.pages)) none.1.0; later = later };
}

-- a moment is left
moment_left : (c : Contents) (held : Names Held) (item : Item) → AllByRecursion IsNoCause (item_causes (model_at c held) item) → c.header.last < greatest
moment_left c held (single.Put name kind bytes) none = below_if greatest c.header.last none.1.1.1.0
moment_left c held (single.Delete name) none = below_if greatest c.header.last none.1.1.0

-- an item that may be done comes later
pub later_item : (c : Contents) (item : Item) (moment : ℕ) → MayDoItem c item moment → c.header.last < moment
later_item c (single.Put name kind bytes) moment may = may.change.later
later_item c (single.Delete name) moment may = may.change.later

-- the bodies are short
item_short : (c : Contents) (item : Item) (moment : ℕ) → MayDoItem c item moment → IsShort item
item_short c (single.Put name kind bytes) moment may = may.body
item_short c (single.Delete name) moment may = tt

pub items_short : (items : List Item) (c : Contents) (moment : ℕ) (bodies : List Extent) → MayDoEach c items moment bodies → AllByRecursion IsShort items
items_short [] c moment bodies may = tt
items_short (item ∷ items) c moment bodies may = (
  item_short c item moment may.2,
  items_short items (lists_after_item c item moment (extent_for item items bodies)) (moment + 1) (extents_left item items bodies) may.3,
)

module _ (law : IsPageRuleKept) where
  rules_step : (c : Contents) (item : Item) (moment : ℕ) (body : Extent) → KeepsRules c → IsMoment moment → MayDoItem c item moment
      → KeepsRules (lists_after_item c item moment body)
  rules_step c item moment body rules is may =
      changed c (lists_after_item c item moment body) (change_of_item c item moment) moment rules is (later_item c item moment may) (change_moment c item moment)
      (change_short c item moment may) refl refl (law.appended (change_of_item c item moment) c.history.pages) refl

  pub rules_after : (items : List Item) (c : Contents) (moment : ℕ) (bodies : List Extent) → KeepsRules c → MayDoEach c items moment bodies
      → KeepsRules (lists_after_items c items moment bodies)
  rules_after [] c moment bodies rules may = rules
  rules_after (item ∷ items) c moment bodies rules may =
      let body = extent_for item items bodies in
      rules_after items (lists_after_item c item moment body) (moment + 1) (extents_left item items bodies) (rules_step c item moment body rules may.0 may.2) may.3

  pub may_do_each : (items : List Item) (c : Contents) (held : Names Held) (moment now : ℕ) (bodies : List Extent) → Ascend (λ (r : Record). r.name) c.catalogue
      → HasEntries c held → KeepsRules c → now ≤ greatest → max now (c.header.last + 1) ≡ moment → AllByRecursion IsNoCause (items_causes (model_at c held) items now)
      → MayDoEach c items moment bodies
  may_do_each [] c held moment now bodies ordered same rules le here none = tt
  may_do_each (item ∷ items) c held moment now bodies ordered same rules le here none =
      let body = extent_for item items bodies in
      let next = lists_after_item c item moment body in
      let both = split IsNoCause (item_causes (model_at c held) item) (items_causes (after_item (model_at c held) item (max now (c.header.last + 1))) items now) none in
      let is : IsMoment moment = omega (arith, le, here, moment_left c held item both.0) in
      let may = may_do_item c held item moment same both.0 (omega (arith, here)) in
      let rest : AllByRecursion IsNoCause (items_causes (model_at next (held_after item moment held)) items now) =
      subst (λ (s : Source). AllByRecursion IsNoCause (items_causes s items now)) (state_step law c held item moment body same)
      (subst (λ (t : ℕ). AllByRecursion IsNoCause (items_causes (after_item (model_at c held) item t) items now)) here both.1) in (
        is,
        rules.moments,
        may,
        may_do_each items next (held_after item moment held) (moment + 1) now (extents_left item items bodies)
            (records_step law item moment body c.catalogue ordered).1 (entries_step law c held item moment body ordered same)
            (rules_step c item moment body rules is may) le (omega (arith, here)) rest,
      )

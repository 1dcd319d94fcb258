-- The states of the lists between the items of a group.
use Rattle.std.proofs.Common.{◌≡◌, ◌<◌, ◌≤◌, ℕ, ◌+◌, Bool, List, [], ◌∷◌, ◌++◌, length, map, max, Option, refl, sym, ◌∙◌, ap, subst, arith, false, ◌||◌, ap₂}
use Rattle.std.specs.Prelude.{All, is_some, IsTrue, bytes_eq}
use Rattle.std.specs.List.{AllZip}
use Rattle.rs_body.specs.Blocks.{part, IsSized}
use Rattle.rs_extent.specs.declared.Extent.{Extent}
use Rattle.rs_image.specs.Whole.{IsSoundRecord}
use Rattle.rs_record.specs.declared.record.Record.{Record}
use Rattle.rs_record.specs.declared.change.Change.{Change}
use Rattle.rs_record.specs.Changes.{bound, deleted}
use Rattle.rs_pages.specs.Laws.{Ascend}
use Rattle.rs_catalogue.specs.Catalogue.{records_of}
use Rattle.rs_catalogue.specs.Named.{named}
use Rattle.rs_plan.proofs.FromBelow.{map_values-bind, map_values-unbind, value-map_values, same_name, is_less, swapped, tail_ordered, above_lower}
use Rattle.rs_changes.specs.History.{changes_of}
use Rattle.rs_model.specs.declared.value.Entry.{Entry}
use Rattle.rs_model.specs.declared.value.Held.{Held}
use Rattle.rs_model.specs.declared.command.Item.{Item}
use Rattle.rs_model.specs.State.{Source, facts_of, entries}
use Rattle.rs_model.specs.Step.{after_item, after_items}
use Rattle.rs_model.specs.Names.{Names, value_of, bind, unbind, map_values, by_bytes, by_order, is_above, is_ordered}
use Rattle.rs_model.specs.Listed.{entry_of}
use Rattle.rs_image.specs.declared.contents.Contents.{Contents}
use Rattle.rs_image.specs.StateOfImage.{held_in, state_in}
use Rattle.rs_plan.specs.Allowed.{MayDoItem}
use Rattle.rs_plan.specs.Drafts.{IsPageRuleKept}
use Rattle.rs_plan.specs.Placed.{record_made}
use Rattle.rs_plan.specs.Plans.{AreBodies}
use Rattle.rs_plan.specs.Room.{bodies_kept, is_named_in}
use Rattle.rs_plan.specs.Turned.{change_put, extent_for, extents_left, lists_after_item, lists_after_items, MayDoEach}
use Rattle.rs_plan.proofs.ItemSteps.{FitsItem, fits_step, map_after, records_step}
use Rattle.rs_plan.proofs.Parts.{after_each}
use Rattle.rs_plan.proofs.Turns.{shown_in, held_shown, some_mapped, state_with}
use Rattle.std.specs.Cmp.{first_so, second_so}
use Rattle.std.specs.Ordering.{is_eq, is_lt}
use Rattle.std.specs.declared.cmp.Ordering.{Ordering}
use Rattle.std.specs.declared.cmp.Ordering.TheVariants.{Less, Equal, Greater}
use Rattle.std.proofs.lemmas.List.Elements.{All-nil, All-cons, All-head, All-tail}
use Rattle.std.proofs.lemmas.Map.Text.{is_eq-slice_cmp}
use Rattle.rs_model.specs.Grouping.{name_of}
use Rattle.rs_model.specs.declared.command.Item.TheVariants as single

-- a name above another one or below it is another one
name_above : (n x : List ℕ) → by_bytes n x ≡ Less → bytes_eq x n ≡ false
name_above n x h = sym (is_eq-slice_cmp x n) ∙ ap is_eq (swapped n x Less h)

name_below : (n x : List ℕ) → by_bytes n x ≡ Greater → bytes_eq x n ≡ false
name_below n x h = sym (is_eq-slice_cmp x n) ∙ ap is_eq (swapped n x Greater h)

module _ {A B : Type 0} (R : A → B → Type 0) where
  -- the same name, whose values agree where no item has it
  abbrev pub IsAlike : List Item → List ℕ × A → List ℕ × B → Type 0
  IsAlike items x y = (x.0 ≡ y.0) × (is_named_in x.0 items ≡ false → R x.1 y.1)

  abbrev pub AreAlike : List Item → Names A → Names B → Type 0
  AreAlike items m n = AllZip (IsAlike items) m n

  -- values of another name than the first item's agree for the later items too
  later_alike : (item : Item) (items : List Item) (x : List ℕ × A) (y : List ℕ × B) → bytes_eq x.0 (name_of item) ≡ false → IsAlike (item ∷ items) x y → IsAlike items x y
  later_alike item items x y differ h = (h.0, λ none. h.1 (ap₂ (λ (s t : Bool). s || t) differ none))

  rest_alike : (item : Item) (items : List Item) (m : Names A) (n : Names B) → IsTrue (is_above (name_of item) m) → AreAlike (item ∷ items) m n → AreAlike items m n
  rest_alike item items [] [] above h = tt
  rest_alike item items [] (y ∷ n) above h = absurd h
  rest_alike item items (x ∷ m) [] above h = absurd h
  rest_alike item items (x ∷ m) (y ∷ n) above h =
      let less = is_less (by_bytes (name_of item) x.0) (first_so (is_lt (by_bytes (name_of item) x.0)) (is_above x.0 m) above) in (
        later_alike item items x y (name_above (name_of item) x.0 less) h.0,
        rest_alike item items m n (above_lower (name_of item) x.0 m less (second_so (is_lt (by_bytes (name_of item) x.0)) (is_above x.0 m) above)) h.1,
      )

  above_same : (n x : List ℕ) (m : Names A) → by_bytes n x ≡ Equal → IsTrue (is_above x m) → IsTrue (is_above n m)
  above_same n x m is above = subst (λ (z : List ℕ). IsTrue (is_above z m)) (sym (same_name n x is)) above

  -- So they agree after the name of an item is bound in both, ..
  bound_by : (item : Item) (items : List Item) (v : A) (w : B) (x : List ℕ × A) (m : Names A) (y : List ℕ × B) (n : Names B) (r : Ordering) → by_bytes (name_of item) x.0 ≡ r
      → (is_named_in (name_of item) items ≡ false → R v w) → IsTrue (is_above x.0 m) → AreAlike (item ∷ items) (x ∷ m) (y ∷ n)
      → AreAlike items (bind (name_of item) v m) (bind (name_of item) w n)
      → AreAlike items (by_order r ((name_of item, v) ∷ x ∷ m) ((name_of item, v) ∷ m) (x ∷ bind (name_of item) v m))
      (by_order r ((name_of item, w) ∷ y ∷ n) ((name_of item, w) ∷ n) (y ∷ bind (name_of item) w n))
  bound_by item items v w x m y n Less is new above h next = (
    (refl, new),
    (later_alike item items x y (name_above (name_of item) x.0 is) h.0, rest_alike item items m n (above_lower (name_of item) x.0 m is above) h.1),
  )
  bound_by item items v w x m y n Equal is new above h next = ((refl, new), rest_alike item items m n (above_same (name_of item) x.0 m is above) h.1)
  bound_by item items v w x m y n Greater is new above h next = (later_alike item items x y (name_below (name_of item) x.0 is) h.0, next)

  pub bound_alike : (item : Item) (items : List Item) (v : A) (w : B) → (is_named_in (name_of item) items ≡ false → R v w) → (m : Names A) (n : Names B) → IsTrue (is_ordered m)
      → AreAlike (item ∷ items) m n → AreAlike items (bind (name_of item) v m) (bind (name_of item) w n)
  bound_alike item items v w new [] [] ordered h = ((refl, new), tt)
  bound_alike item items v w new [] (y ∷ n) ordered h = absurd h
  bound_alike item items v w new (x ∷ m) [] ordered h = absurd h
  bound_alike item items v w new (x ∷ m) (y ∷ n) ordered h =
      subst (λ (q : Ordering). AreAlike items (bind (name_of item) v (x ∷ m))
      (by_order q ((name_of item, w) ∷ y ∷ n) ((name_of item, w) ∷ n) (y ∷ bind (name_of item) w n))) (ap (by_bytes (name_of item)) h.0.0)
      (bound_by item items v w x m y n (by_bytes (name_of item) x.0) refl new ordered h
      (bound_alike item items v w new m n (tail_ordered x.0 m ordered) h.1))

  -- .. or unbound.
  unbound_by : (item : Item) (items : List Item) (x : List ℕ × A) (m : Names A) (y : List ℕ × B) (n : Names B) (r : Ordering) → by_bytes (name_of item) x.0 ≡ r
      → IsTrue (is_above x.0 m) → AreAlike (item ∷ items) (x ∷ m) (y ∷ n) → AreAlike items (unbind (name_of item) m) (unbind (name_of item) n)
      → AreAlike items (by_order r (x ∷ m) m (x ∷ unbind (name_of item) m)) (by_order r (y ∷ n) n (y ∷ unbind (name_of item) n))
  unbound_by item items x m y n Less is above h next = (
    later_alike item items x y (name_above (name_of item) x.0 is) h.0,
    rest_alike item items m n (above_lower (name_of item) x.0 m is above) h.1,
  )
  unbound_by item items x m y n Equal is above h next = rest_alike item items m n (above_same (name_of item) x.0 m is above) h.1
  unbound_by item items x m y n Greater is above h next = (later_alike item items x y (name_below (name_of item) x.0 is) h.0, next)

  pub unbound_alike : (item : Item) (items : List Item) (m : Names A) (n : Names B) → IsTrue (is_ordered m) → AreAlike (item ∷ items) m n
      → AreAlike items (unbind (name_of item) m) (unbind (name_of item) n)
  unbound_alike item items [] [] ordered h = tt
  unbound_alike item items [] (y ∷ n) ordered h = absurd h
  unbound_alike item items (x ∷ m) [] ordered h = absurd h
  unbound_alike item items (x ∷ m) (y ∷ n) ordered h =
      subst (λ (q : Ordering). AreAlike items (unbind (name_of item) (x ∷ m)) (by_order q (y ∷ n) n (y ∷ unbind (name_of item) n))) (ap (by_bytes (name_of item)) h.0.0)
      (unbound_by item items x m y n (by_bytes (name_of item) x.0) refl ordered h (unbound_alike item items m n (tail_ordered x.0 m ordered) h.1))

  -- Where all values agree, the maps do.
  pub begin_alike : (f : A → B) → ((x : A) → R x (f x)) → (items : List Item) (m : Names A) → AreAlike items m (map_values f m)
  begin_alike f all items [] = tt
  begin_alike f all items (x ∷ m) = ((refl, λ none. all x.1), begin_alike f all items m)

  -- At the end all values agree.
  pub end_alike : (f : A → B) → ((x : A) (y : B) → R x y → f x ≡ y) → (m : Names A) (n : Names B) → AreAlike [] m n → map_values f m ≡ n
  end_alike f same [] [] h = refl
  end_alike f same [] (y ∷ n) h = absurd h
  end_alike f same (x ∷ m) [] h = absurd h
  end_alike f same (x ∷ m) (y ∷ n) h =
      ap₂ (λ (e : List ℕ × B) (rest : Names B). e ∷ rest)
      (ap₂ (λ (name : List ℕ) (value : B). let e : List ℕ × B = (name, value) in e) h.0.0 (same x.1 y.1 (h.0.1 refl))) (end_alike f same m n h.1)

-- A fact of all records holds of all records that these items do not name, and so of all, where there are no items.
pub begin_all : (P : Record → Type 0) (items : List Item) (records : List Record) → All P records
    → AreAlike (λ (r r' : Record). P r) items (named records) (named records)
begin_all P items [] all = tt
begin_all P items (r ∷ records) all = ((refl, λ none. All-head P r records all), begin_all P items records (All-tail P r records all))

pub end_all : (P : Record → Type 0) (records others : List Record) → AreAlike (λ (r r' : Record). P r) [] (named records) (named others) → All P records
end_all P [] others h = All-nil P
end_all P (r ∷ records) [] h = absurd h
end_all P (r ∷ records) (other ∷ others) h = All-cons P r records (h.0.1 refl) (end_all P records others h.1)

-- the state of these lists, where this is held
abbrev pub model_at : Contents → Names Held → Source
model_at c held = state_with c.header held (changes_of c.history.pages) (map entry_of (records_of c.published))

-- the held resources after an item, and after items
abbrev pub held_after : Item → ℕ → Names Held → Names Held
held_after (single.Put name kind bytes) moment held = bind name (record { bytes = bytes; entry = record { facts = facts_of kind bytes; moment = moment } }) held
held_after (single.Delete name) moment held = unbind name held

abbrev pub held_after_items : List Item → ℕ → Names Held → Names Held
held_after_items [] moment held = held
held_after_items (item ∷ items) moment held = held_after_items items (moment + 1) (held_after item moment held)

-- the entry of a record
abbrev pub entry_in : Record → Entry
entry_in r = (entry_of r).1

-- The held resources have the entries of the records.
abbrev pub HasEntries : Contents → Names Held → Type 0
HasEntries c held = entries held ≡ map_values entry_in (named (records_of c.catalogue))

-- so a name is held where a record has it
pub held_as : (c : Contents) (held : Names Held) (name : List ℕ) → HasEntries c held
    → is_some (value_of name held) ≡ is_some (value_of name (named (records_of c.catalogue)))
held_as c held name same =
    sym (some_mapped (λ (h : Held). h.entry) (value_of name held)) ∙ ap (λ (o : Option Entry). is_some o) (sym (value-map_values (λ (h : Held). h.entry) name held))
    ∙ ap (λ (m : Names Entry). is_some (value_of name m)) same
    ∙ ap (λ (o : Option Entry). is_some o) (value-map_values entry_in name (named (records_of c.catalogue)))
    ∙ some_mapped entry_in (value_of name (named (records_of c.catalogue)))

-- the held resources in an image have the entries of the records
entries_of : (image : List ℕ) (records : List Record) → entries (map (held_in image) records) ≡ map_values entry_in (named records)
entries_of image [] = refl
entries_of image (r ∷ records) = ap (λ (rest : Names Entry). (r.name, entry_in r) ∷ rest) (entries_of image records)

pub entries_held : (image : List ℕ) (c : Contents) → HasEntries c (map (held_in image) (records_of c.catalogue))
entries_held image c = entries_of image (records_of c.catalogue)

-- the moment of the last command grows, and the formatting stays
pub last_grows : (items : List Item) (c : Contents) (moment : ℕ) (bodies : List Extent) → c.header.last ≤ moment → c.header.last ≤ (lists_after_items c items moment bodies).header.last
last_grows [] c moment bodies le = omega arith
last_grows (item ∷ items) c moment bodies le =
    let next = lists_after_item c item moment (extent_for item items bodies) in
    omega (arith, le, last_grows items next (moment + 1) (extents_left item items bodies) (omega arith))

pub start_stays : (items : List Item) (c : Contents) (moment : ℕ) (bodies : List Extent) → (lists_after_items c items moment bodies).header.start ≡ c.header.start
start_stays items c moment bodies = after_each (λ x. x.header.start ≡ c.header.start) (λ x item at body same. same) items c moment bodies refl

module _ (law : IsPageRuleKept) where
  pub entries_step : (c : Contents) (held : Names Held) (item : Item) (moment : ℕ) (body : Extent) → Ascend (λ (r : Record). r.name) c.catalogue → HasEntries c held
      → HasEntries (lists_after_item c item moment body) (held_after item moment held)
  entries_step c held (single.Put name kind bytes) moment body ordered same =
      map_values-bind (λ (h : Held). h.entry) name (record { bytes = bytes; entry = record { facts = facts_of kind bytes; moment = moment } }) held
      ∙ ap (bind name (entry_in (record_made name kind bytes body moment))) same
      ∙ sym (map_values-bind entry_in name (record_made name kind bytes body moment) (named (records_of c.catalogue)))
      ∙ ap (map_values entry_in) (sym (records_step law (single.Put name kind bytes) moment body c.catalogue ordered).0)
  entries_step c held (single.Delete name) moment body ordered same =
      map_values-unbind (λ (h : Held). h.entry) name held ∙ ap (unbind name) same ∙ sym (map_values-unbind entry_in name (named (records_of c.catalogue)))
      ∙ ap (map_values entry_in) (sym (records_step law (single.Delete name) moment body c.catalogue ordered).0)

  -- the model's state after an item is that of the lists after it
  pub state_step : (c : Contents) (held : Names Held) (item : Item) (moment : ℕ) (body : Extent) → HasEntries c held
      → after_item (model_at c held) item moment ≡ model_at (lists_after_item c item moment body) (held_after item moment held)
  state_step c held (single.Put name kind bytes) moment body same =
      ap (λ (changes : List Change). state_with (record c.header { last = moment }) (held_after (single.Put name kind bytes) moment held) changes (map entry_of (records_of c.published)))
      (ap (λ (again : Bool). changes_of c.history.pages ++ bound name again moment (facts_of kind bytes) ∷ []) (held_as c held name same)
      ∙ sym (law.appended (change_put c name kind bytes moment) c.history.pages))
  state_step c held (single.Delete name) moment body same =
      ap (λ (changes : List Change). state_with (record c.header { last = moment }) (held_after (single.Delete name) moment held) changes (map entry_of (records_of c.published)))
      (sym (law.appended (deleted name moment) c.history.pages))

  -- so is that after all items
  pub turned_state : (items : List Item) (c : Contents) (held : Names Held) (moment now : ℕ) (bodies : List Extent) → Ascend (λ (r : Record). r.name) c.catalogue → HasEntries c held
      → max now (c.header.last + 1) ≡ moment
      → after_items (model_at c held) items now ≡ model_at (lists_after_items c items moment bodies) (held_after_items items moment held)
  turned_state [] c held moment now bodies ordered same here = refl
  turned_state (item ∷ items) c held moment now bodies ordered same here =
      let body = extent_for item items bodies in
      let next = lists_after_item c item moment body in
      ap (λ (t : ℕ). after_items (after_item (model_at c held) item t) items now) here
      ∙ ap (λ (s : Source). after_items s items now) (state_step c held item moment body same)
      ∙ turned_state items next (held_after item moment held) (moment + 1) now (extents_left item items bodies) (records_step law item moment body c.catalogue ordered).1
      (entries_step c held item moment body ordered same) (omega (arith, here))

  -- The written bodies lie where the records say; so all bodies do at the end.
  module _ (image : List ℕ) where
    abbrev Shows : Record → Held → Type 0
    Shows r held = shown_in image r ≡ held

    abbrev StandsAt : Extent → List ℕ → Type 0
    StandsAt extent bytes = part extent (length bytes) image ≡ bytes

    shown_step : (c : Contents) (held : Names Held) (item : Item) (items : List Item) (moment : ℕ) (body : Extent) → Ascend (λ (r : Record). r.name) c.catalogue
        → FitsItem StandsAt item items body → AreAlike Shows (item ∷ items) (named (records_of c.catalogue)) held
        → AreAlike Shows items (map_after item moment body (named (records_of c.catalogue))) (held_after item moment held)
    shown_step c held (single.Put name kind bytes) items moment body ordered fits alike =
        bound_alike Shows (single.Put name kind bytes) items (record_made name kind bytes body moment)
        (record { bytes = bytes; entry = record { facts = facts_of kind bytes; moment = moment } })
        (λ none. ap (λ (b : List ℕ). let h : Held = record { bytes = b; entry = record { facts = facts_of kind bytes; moment = moment } } in h) (fits none))
        (named (records_of c.catalogue)) held ordered alike
    shown_step c held (single.Delete name) items moment body ordered fits alike =
        unbound_alike Shows (single.Delete name) items (named (records_of c.catalogue)) held ordered alike

    shown_after : (items : List Item) (c : Contents) (held : Names Held) (moment : ℕ) (bodies : List Extent) → Ascend (λ (r : Record). r.name) c.catalogue
        → AreBodies image bodies (bodies_kept items) → AreAlike Shows items (named (records_of c.catalogue)) held
        → AreAlike Shows [] (named (records_of (lists_after_items c items moment bodies).catalogue)) (held_after_items items moment held)
    shown_after [] c held moment bodies ordered there alike = alike
    shown_after (item ∷ items) c held moment bodies ordered there alike =
        let body = extent_for item items bodies in
        let fits = fits_step StandsAt item items bodies there in
        let step = records_step law item moment body c.catalogue ordered in
        shown_after items (lists_after_item c item moment body) (held_after item moment held) (moment + 1) (extents_left item items bodies) step.1 fits.1
        (subst (λ (m : Names Record). AreAlike Shows items m (held_after item moment held)) (sym step.0)
        (shown_step c held item items moment body ordered fits.0 alike))

    pub group_turns : (c : Contents) (items : List Item) (moment : ℕ) (bodies : List Extent) → Ascend (λ (r : Record). r.name) c.catalogue → c.header.last < moment
        → AreBodies image bodies (bodies_kept items) → state_in image (lists_after_items c items moment bodies) ≡ after_items (state_in image c) items moment
    group_turns c items moment bodies ordered later there =
        let held : Names Held = map (held_in image) (records_of c.catalogue) in
        let final = lists_after_items c items moment bodies in
        let shown : held ≡ map_values (shown_in image) (named (records_of c.catalogue)) = held_shown image (records_of c.catalogue) in
        let alike : AreAlike Shows items (named (records_of c.catalogue)) held =
        subst (AreAlike Shows items (named (records_of c.catalogue))) (sym shown) (begin_alike Shows (shown_in image) (λ r. refl) items (named (records_of c.catalogue))) in
        let same : map (held_in image) (records_of final.catalogue) ≡ held_after_items items moment held =
        held_shown image (records_of final.catalogue)
        ∙ end_alike Shows (shown_in image) (λ r h is. is) (named (records_of final.catalogue)) (held_after_items items moment held)
        (shown_after items c held moment bodies ordered there alike) in
        ap (model_at final) same ∙ sym (turned_state items c held moment moment bodies ordered (entries_held image c) (omega (arith, later)))

  -- All records are sound at the end, since every body that is written has its blocks.
  module _ (low high : ℕ) where
    abbrev Sound : Record → Record → Type 0
    Sound r other = IsSoundRecord low high r

    abbrev HasBlocks : Extent → List ℕ → Type 0
    HasBlocks extent bytes = IsSized extent (length bytes)

    sound_step : (c : Contents) (item : Item) (items : List Item) (moment : ℕ) (body : Extent) → Ascend (λ (r : Record). r.name) c.catalogue
        → FitsItem HasBlocks item items body → MayDoItem c item moment → low < moment → moment ≤ high
        → AreAlike Sound (item ∷ items) (named (records_of c.catalogue)) (named (records_of c.catalogue))
        → AreAlike Sound items (map_after item moment body (named (records_of c.catalogue))) (map_after item moment body (named (records_of c.catalogue)))
    sound_step c (single.Put name kind bytes) items moment body ordered fits may after up_to alike =
        bound_alike Sound (single.Put name kind bytes) items (record_made name kind bytes body moment) (record_made name kind bytes body moment)
        (λ none. record { moment = record { after = after; up_to = up_to }; body = may.body; sized = fits none })
        (named (records_of c.catalogue)) (named (records_of c.catalogue)) ordered alike
    sound_step c (single.Delete name) items moment body ordered fits may after up_to alike =
        unbound_alike Sound (single.Delete name) items (named (records_of c.catalogue)) (named (records_of c.catalogue)) ordered alike

    sound_after : (items : List Item) (c : Contents) (moment : ℕ) (bodies : List Extent) → Ascend (λ (r : Record). r.name) c.catalogue
        → AllZip HasBlocks bodies (bodies_kept items) → MayDoEach c items moment bodies → low < moment → (lists_after_items c items moment bodies).header.last ≤ high
        → AreAlike Sound items (named (records_of c.catalogue)) (named (records_of c.catalogue))
        → AreAlike Sound [] (named (records_of (lists_after_items c items moment bodies).catalogue)) (named (records_of (lists_after_items c items moment bodies).catalogue))
    sound_after [] c moment bodies ordered sized may after up_to alike = alike
    sound_after (item ∷ items) c moment bodies ordered sized may after up_to alike =
        let body = extent_for item items bodies in
        let left = extents_left item items bodies in
        let next = lists_after_item c item moment body in
        let fits = fits_step HasBlocks item items bodies sized in
        let step = records_step law item moment body c.catalogue ordered in
        let le : moment ≤ high = omega (arith, last_grows items next (moment + 1) left (omega arith), up_to) in
        sound_after items next (moment + 1) left step.1 fits.1 may.3 (omega (arith, after)) up_to
        (subst (λ (m : Names Record). AreAlike Sound items m m) (sym step.0) (sound_step c item items moment body ordered fits.0 may.2 after le alike))

    pub records_sound : (items : List Item) (c : Contents) (moment : ℕ) (bodies : List Extent) → Ascend (λ (r : Record). r.name) c.catalogue
        → AllZip HasBlocks bodies (bodies_kept items) → MayDoEach c items moment bodies → low < moment → (lists_after_items c items moment bodies).header.last ≤ high
        → All (IsSoundRecord low high) (records_of c.catalogue) → All (IsSoundRecord low high) (records_of (lists_after_items c items moment bodies).catalogue)
    records_sound items c moment bodies ordered sized may after up_to all =
        end_all (IsSoundRecord low high) (records_of (lists_after_items c items moment bodies).catalogue) (records_of (lists_after_items c items moment bodies).catalogue)
        (sound_after items c moment bodies ordered sized may after up_to (begin_all (IsSoundRecord low high) items (records_of c.catalogue) all))

-- The lists after one item, from the lists before it, and the body that is removed.
use Rattle.std.proofs.Common.{true≢false, ◌≡◌, ◌≤◌, ℕ, Bool, true, false, not, List, [], ◌∷◌, ◌++◌, if◌then◌else◌, refl, Option, sym, ◌∙◌, ap, Some, None, subst, map}
use Rattle.std.specs.Prelude.{IfSome, IsSome, is_some}
use Rattle.std.specs.List.{AllZip, cons_option}
use Rattle.rs_extent.specs.declared.Extent.{Extent}
use Rattle.rs_record.specs.declared.record.Record.{Record}
use Rattle.rs_record.specs.declared.change.Change.{Change}
use Rattle.rs_record.specs.Limits.{longest_body}
use Rattle.rs_page.specs.Pages.{Page, stored_refs}
use Rattle.rs_page.specs.SharedPages.{KeepsPages}
use Rattle.rs_pages.specs.Rule.{appended_to, items_at, home}
use Rattle.rs_pages.specs.Entries.{open_entry}
use Rattle.rs_pages.specs.Laws.{Ascend, TouchesOne}
use Rattle.rs_plan.proofs.FromBelow.{touching_keeps, found_at_home}
use Rattle.rs_catalogue.specs.Catalogue.{records_of}
use Rattle.rs_catalogue.specs.Named.{named}
use Rattle.rs_model.specs.Grouping.{name_of}
use Rattle.rs_model.specs.Names.{Names, bind, unbind, value_of, by_bytes, by_order}
use Rattle.rs_model.specs.declared.command.Item.{Item}
use Rattle.rs_image.specs.declared.contents.Contents.{Contents}
use Rattle.rs_plan.specs.Allowed.{MayDoItem}
use Rattle.rs_plan.specs.Drafts.{IsPageRuleKept}
use Rattle.rs_plan.specs.Freed.{entry_of_name, extent_of_body}
use Rattle.rs_plan.specs.Placed.{AreUnplaced, record_made}
use Rattle.rs_plan.specs.Room.{is_named_in, bodies_kept}
use Rattle.rs_plan.specs.Turned.{no_body, first_of, others_of, change_of_item, catalogue_after, is_written, extent_for, extents_left, lists_with, lists_after_item}
use Rattle.rs_plan.proofs.FreedPages.{LosesOne, bind_takes, unbind_takes, append_takes}
use Rattle.rs_plan.proofs.FreedParts.{Replaces}
use Rattle.rs_plan.proofs.Parts.{bodies_in}
use Rattle.rs_pages.specs.Items.{keyed}
use Rattle.std.specs.declared.cmp.Ordering.{Ordering}
use Rattle.std.specs.declared.cmp.Ordering.TheVariants.{Less, Equal, Greater}
use Rattle.rs_image.specs.Reach.{bodies_of}
use Rattle.rs_model.specs.declared.command.Item.TheVariants as single

-- the records of a map
abbrev pub values : Names Record → List Record
values m = map (λ e. e.1) m

pub values_named : (records : List Record) → values (named records) ≡ records
values_named [] = refl
values_named (r ∷ records) = ap (λ rest. r ∷ rest) (values_named records)

-- the body of a record, if there is one
abbrev body_of : Option Record → List Extent
body_of o = bodies_of (cons_option o [])

-- One more extent before all.
longer : (x : Extent) (old new gone made : List Extent) → Replaces old new gone made → Replaces (x ∷ old) (x ∷ new) gone made
longer x old new gone made by = record {
  front = x ∷ by.front;
  back = by.back;
  was = ap (λ (l : List Extent). x ∷ l) by.was;
  is = ap (λ (l : List Extent). x ∷ l) by.is;
}

-- a name that is bound
bound_by : (name : List ℕ) (v : Record) (e : List ℕ × Record) (m : Names Record) (r : Ordering)
    → Replaces (bodies_of (values m)) (bodies_of (values (bind name v m))) (body_of (value_of name m)) (v.extent ∷ [])
    → Replaces (bodies_of (values (e ∷ m))) (bodies_of (values (by_order r ((name, v) ∷ e ∷ m) ((name, v) ∷ m) (e ∷ bind name v m))))
    (body_of (by_order r None (Some e.1) (value_of name m))) (v.extent ∷ [])
bound_by name v e m Less next = record { front = []; back = bodies_of (values (e ∷ m)); was = refl; is = refl }
bound_by name v e m Equal next = record { front = []; back = bodies_of (values m); was = refl; is = refl }
bound_by name v e m Greater next =
    longer e.1.extent (bodies_of (values m)) (bodies_of (values (bind name v m))) (body_of (value_of name m)) (v.extent ∷ []) next

bound_replaces : (name : List ℕ) (v : Record) (m : Names Record)
    → Replaces (bodies_of (values m)) (bodies_of (values (bind name v m))) (body_of (value_of name m)) (v.extent ∷ [])
bound_replaces name v [] = record { front = []; back = []; was = refl; is = refl }
bound_replaces name v (e ∷ m) = bound_by name v e m (by_bytes name e.0) (bound_replaces name v m)

-- a name that is unbound
unbound_by : (name : List ℕ) (e : List ℕ × Record) (m : Names Record) (r : Ordering)
    → Replaces (bodies_of (values m)) (bodies_of (values (unbind name m))) (body_of (value_of name m)) []
    → Replaces (bodies_of (values (e ∷ m))) (bodies_of (values (by_order r (e ∷ m) m (e ∷ unbind name m))))
    (body_of (by_order r None (Some e.1) (value_of name m))) []
unbound_by name e m Less next = record { front = []; back = bodies_of (values (e ∷ m)); was = refl; is = refl }
unbound_by name e m Equal next = record { front = []; back = bodies_of (values m); was = refl; is = refl }
unbound_by name e m Greater next =
    longer e.1.extent (bodies_of (values m)) (bodies_of (values (unbind name m))) (body_of (value_of name m)) [] next

unbound_replaces : (name : List ℕ) (m : Names Record) → Replaces (bodies_of (values m)) (bodies_of (values (unbind name m))) (body_of (value_of name m)) []
unbound_replaces name [] = record { front = []; back = []; was = refl; is = refl }
unbound_replaces name (e ∷ m) = unbound_by name e m (by_bytes name e.0) (unbound_replaces name m)

-- so for the records of a catalogue
pub body_bound : (name : List ℕ) (v : Record) (old new : List Record) → named new ≡ bind name v (named old)
    → Replaces (bodies_of old) (bodies_of new) (bodies_of (cons_option (value_of name (named old)) [])) (v.extent ∷ [])
body_bound name v old new is =
    subst (λ (n : List Record). Replaces (bodies_of old) (bodies_of n) (body_of (value_of name (named old))) (v.extent ∷ [])) (values_named new)
    (subst (λ (m : Names Record). Replaces (bodies_of old) (bodies_of (values m)) (body_of (value_of name (named old))) (v.extent ∷ [])) (sym is)
    (subst (λ (o : List Record). Replaces (bodies_of o) (bodies_of (values (bind name v (named old)))) (body_of (value_of name (named old))) (v.extent ∷ []))
    (values_named old) (bound_replaces name v (named old))))

pub body_unbound : (name : List ℕ) (old new : List Record) → named new ≡ unbind name (named old)
    → Replaces (bodies_of old) (bodies_of new) (bodies_of (cons_option (value_of name (named old)) [])) []
body_unbound name old new is =
    subst (λ (n : List Record). Replaces (bodies_of old) (bodies_of n) (body_of (value_of name (named old))) []) (values_named new)
    (subst (λ (m : Names Record). Replaces (bodies_of old) (bodies_of (values m)) (body_of (value_of name (named old))) []) (sym is)
    (subst (λ (o : List Record). Replaces (bodies_of o) (bodies_of (values (unbind name (named old)))) (body_of (value_of name (named old))) [])
    (values_named old) (unbound_replaces name (named old))))

-- the records after an item, by their names
abbrev pub map_after : Item → ℕ → Extent → Names Record → Names Record
map_after (single.Put name kind bytes) moment body m = bind name (record_made name kind bytes body moment) m
map_after (single.Delete name) moment body m = unbind name m

-- the body of an item lies in these extents of the lists after it
abbrev pub made_by : Item → Extent → List Extent
made_by (single.Put name kind bytes) body = body ∷ []
made_by (single.Delete name) body = []

-- a change comes at its moment, and its body is not too long
pub change_moment : (c : Contents) (item : Item) (moment : ℕ) → (change_of_item c item moment).moment ≡ moment
change_moment c (single.Put name kind bytes) moment = refl
change_moment c (single.Delete name) moment = refl

pub change_short : (c : Contents) (item : Item) (moment : ℕ) → MayDoItem c item moment
    → IfSome (change_of_item c item moment).facts (λ facts. facts.length ≤ longest_body)
change_short c (single.Put name kind bytes) moment may = may.body
change_short c (single.Delete name) moment may = tt

-- a held name is in the page that it goes into
pub held_at_home : (name : List ℕ) (pages : List (Page Record)) → Ascend (λ (r : Record). r.name) pages → IsSome (value_of name (named (records_of pages)))
    → is_some (value_of name (keyed (λ (r : Record). r.name) (items_at (home (λ (r : Record). r.name) name pages) pages))) ≡ true
held_at_home name pages ordered held = ap (λ (o : Option Record). is_some o) (sym (found_at_home (λ (r : Record). r.name) name pages ordered)) ∙ held

module _ (law : IsPageRuleKept) where
  pub records_step : (item : Item) (moment : ℕ) (body : Extent) (pages : List (Page Record)) → Ascend (λ (r : Record). r.name) pages
      → (named (records_of (catalogue_after item moment body pages)) ≡ map_after item moment body (named (records_of pages)))
      × Ascend (λ (r : Record). r.name) (catalogue_after item moment body pages)
  records_step (single.Put name kind bytes) moment body pages ordered = law.bound (record_made name kind bytes body moment) pages ordered
  records_step (single.Delete name) moment body pages ordered = law.unbound name pages ordered

  touches_step : (item : Item) (moment : ℕ) (body : Extent) (pages : List (Page Record)) → TouchesOne pages (catalogue_after item moment body pages)
  touches_step (single.Put name kind bytes) moment body pages = law.touches_bound (record_made name kind bytes body moment) pages
  touches_step (single.Delete name) moment body pages = law.touches_unbound name pages

  -- the pages on the disk are kept, and no page is given blocks
  pub keeps_step : (c : Contents) (item : Item) (moment : ℕ) (body : Extent) → KeepsPages c.catalogue (lists_after_item c item moment body).catalogue
      × KeepsPages c.history.pages (lists_after_item c item moment body).history.pages
  keeps_step c item moment body = (
    (touching_keeps c.catalogue (catalogue_after item moment body c.catalogue) (touches_step item moment body c.catalogue)).0,
    (touching_keeps c.history.pages (lists_after_item c item moment body).history.pages (law.touches_appended (change_of_item c item moment) c.history.pages)).0,
  )

  pub unplaced_with : (c : Contents) (catalogue : List (Page Record)) (change : Change) (moment : ℕ) → TouchesOne c.catalogue catalogue → AreUnplaced c
      → AreUnplaced (lists_with c catalogue change moment)
  unplaced_with c catalogue change moment touches none = record {
    catalogue = (touching_keeps c.catalogue catalogue touches).1 none.catalogue;
    history = (touching_keeps c.history.pages (appended_to change c.history.pages) (law.touches_appended change c.history.pages)).1 none.history;
  }

  pub unplaced_step : (c : Contents) (item : Item) (moment : ℕ) (body : Extent) → AreUnplaced c → AreUnplaced (lists_after_item c item moment body)
  unplaced_step c item moment body none =
      unplaced_with c (catalogue_after item moment body c.catalogue) (change_of_item c item moment) moment (touches_step item moment body c.catalogue) none

  -- the entries that are lost
  pub page_lost : (c : Contents) (item : Item) (moment : ℕ) (body : Extent) → Ascend (λ (r : Record). r.name) c.catalogue → MayDoItem c item moment
      → LosesOne (entry_of_name c (name_of item)) (stored_refs c.catalogue) (stored_refs (lists_after_item c item moment body).catalogue)
  page_lost c (single.Put name kind bytes) moment body ordered may = bind_takes (λ (r : Record). r.name) (record_made name kind bytes body moment) c.catalogue
  page_lost c (single.Delete name) moment body ordered may = unbind_takes (λ (r : Record). r.name) name c.catalogue (held_at_home name c.catalogue ordered may.held)

  pub history_page_lost : (c : Contents) (item : Item) (moment : ℕ) (body : Extent)
      → LosesOne (open_entry c.history.pages) (stored_refs c.history.pages) (stored_refs (lists_after_item c item moment body).history.pages)
  history_page_lost c item moment body = append_takes (change_of_item c item moment) c.history.pages

  -- and the lost body
  pub body_lost : (c : Contents) (item : Item) (moment : ℕ) (body : Extent) → Ascend (λ (r : Record). r.name) c.catalogue
      → Replaces (bodies_in c) (bodies_in (lists_after_item c item moment body)) (extent_of_body c (name_of item)) (made_by item body)
  body_lost c (single.Put name kind bytes) moment body ordered =
      body_bound name (record_made name kind bytes body moment) (records_of c.catalogue) (records_of (catalogue_after (single.Put name kind bytes) moment body c.catalogue))
      (law.bound (record_made name kind bytes body moment) c.catalogue ordered).0
  body_lost c (single.Delete name) moment body ordered =
      body_unbound name (records_of c.catalogue) (records_of (catalogue_after (single.Delete name) moment body c.catalogue)) (law.unbound name c.catalogue ordered).0

-- A fact of all bodies that a group writes holds of the first item's body, where it is written, and of the others'
-- bodies.
abbrev pub FitsItem : (Extent → List ℕ → Type 0) → Item → List Item → Extent → Type 0
FitsItem R (single.Put name kind bytes) items e = is_named_in name items ≡ false → R e bytes
FitsItem R (single.Delete name) items e = Unit {0}

fits_by : (R : Extent → List ℕ → Type 0) (bytes : List ℕ) (rest : List (List ℕ)) (bodies : List Extent) (t : Bool) → AllZip R bodies (if t then rest else bytes ∷ rest)
    → (t ≡ false → R (if not t then first_of bodies else no_body) bytes) × AllZip R (if not t then others_of bodies else bodies) rest
fits_by R bytes rest bodies true all = (λ is. absurd (true≢false is), all)
fits_by R bytes rest [] false all = absurd all
fits_by R bytes rest (e ∷ bodies) false all = (λ is. all.0, all.1)

pub fits_step : (R : Extent → List ℕ → Type 0) (item : Item) (items : List Item) (bodies : List Extent) → AllZip R bodies (bodies_kept (item ∷ items))
    → FitsItem R item items (extent_for item items bodies) × AllZip R (extents_left item items bodies) (bodies_kept items)
fits_step R (single.Put name kind bytes) items bodies all = fits_by R bytes (bodies_kept items) bodies (is_named_in name items) all
fits_step R (single.Delete name) items bodies all = (tt, all)

-- the extents of bodies: the first item's, if its body is written, and the others'
abbrev pub made_for : Item → List Item → List Extent → List Extent
made_for item items bodies = if is_written item items then first_of bodies ∷ [] else []

cut_by : (R : Extent → List ℕ → Type 0) (bytes : List ℕ) (rest : List (List ℕ)) (bodies : List Extent) (t : Bool) → AllZip R bodies (if t then rest else bytes ∷ rest)
    → bodies ≡ (if not t then first_of bodies ∷ [] else []) ++ (if not t then others_of bodies else bodies)
cut_by R bytes rest bodies true all = refl
cut_by R bytes rest [] false all = absurd all
cut_by R bytes rest (e ∷ bodies) false all = refl

pub bodies_cut : (R : Extent → List ℕ → Type 0) (item : Item) (items : List Item) (bodies : List Extent) → AllZip R bodies (bodies_kept (item ∷ items))
    → bodies ≡ made_for item items bodies ++ extents_left item items bodies
bodies_cut R (single.Put name kind bytes) items bodies all = cut_by R bytes (bodies_kept items) bodies (is_named_in name items) all
bodies_cut R (single.Delete name) items bodies all = refl

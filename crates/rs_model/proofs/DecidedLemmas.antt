-- The known facts of a state decide its items.
use Rattle.std.proofs.Common.{◌≡◌, ℕ, zero, suc, ◌≤◌, ◌+◌, ◌<◌, List, [], ◌∷◌, ◌++◌, length, take, drop, get_or, refl, sym, ap, subst, ◌∙◌, arith, Bool, true, false, cond, not, nat_lt, nat_le, Option, Some, None, set, length-set, length-append, drop-cons}
use Rattle.std.proofs.lemmas.List.{drop_all, take_all, take_more, take_more_set, map-append}
use Rattle.std.specs.Prelude.{IsTrue, is_some, is_none, ◌&&◌, ◌≢◌, map}
use Rattle.std.specs.Ordering.{is_eq}
use Rattle.std.specs.declared.cmp.Ordering.TheVariants.{Equal}
use Rattle.std.proofs.lemmas.Bool.Decides.{nat_tests}
use Rattle.rs_model.specs.declared.command.Item.{Item}
use Rattle.rs_model.specs.declared.command.Item.TheVariants as single
use Rattle.rs_model.specs.declared.command.Command.TheVariants.{Group}
use Rattle.rs_model.specs.declared.command.Refusal.{Refusal}
use Rattle.rs_model.specs.declared.command.Refusal.TheVariants.{BadGroup, TooLong, NotHeld, TooManyResources}
use Rattle.rs_model.specs.declared.grouping.Counts.{Counts}
use Rattle.rs_model.specs.declared.value.Held.{Held}
use Rattle.rs_model.specs.Names.{by_bytes, value_of, bind, unbind, is_ordered}
use Rattle.rs_record.specs.Limits.{longest_body}
use Rattle.rs_model.specs.State.{Source, most_resources}
use Rattle.rs_model.specs.Step.{first_cause, is_held, item_causes, items_causes, is_bad_group, refusal_of, moment_at, after_item, after_items}
use Rattle.rs_model.specs.Grouping.{name_of, leaves_held, held_after, change_refusal_by, item_refusal_by, resources_after, counts_after_item, IsBefore}
use Rattle.rs_model.proofs.MapLemmas.{same_name, is_equal, itself, value-bind, other-bind, value-unbind, other-unbind}
use Rattle.rs_model.proofs.OrderLemmas.{ordered-bind, ordered-unbind}
use Rattle.rs_model.proofs.RoomLemmas.{length-bind, length-unbound}
use Rattle.rs_model.proofs.ItemLemmas.{change_of, item_changes, item_last, after-append}
use Rattle.rs_model.proofs.GroupLemmas.{first_of, first_cause-append}

-- the counts of a state
abbrev pub counts_of : Source → Counts
counts_of s = record { resources = length s.held; changes = length s.changes; last = s.last }

-- these
abbrev counts_at : ℕ → ℕ → ℕ → Counts
counts_at resources changes last = record { resources = resources; changes = changes; last = last }

differ : (name other : List ℕ) → is_eq (by_bytes name other) ≡ false → other ≢ name
differ name other h =
    λ (e : other ≡ name).
    let same : by_bytes name other ≡ Equal = subst (λ x. by_bytes name x ≡ Equal) (sym e) (itself name) in
    let equal : is_eq (by_bytes name other) ≡ true = ap is_eq same in
    cc

-- whether a name is held after an item
put_holds : (b : Bool) (s : Source) (name other : List ℕ) (held : Held) → is_eq (by_bytes other name) ≡ b
    → is_some (value_of other (bind name held s.held)) ≡ cond b true (is_held s other)
put_holds true s name other held e =
    let same : other ≡ name = same_name other name (is_equal (by_bytes other name) e) in
    ap is_some (subst (λ x. value_of x (bind name held s.held) ≡ Some held) (sym same) (value-bind name held s.held))
put_holds false s name other held e = ap is_some (other-bind name other held s.held (differ other name e))

delete_holds : (b : Bool) (s : Source) (name other : List ℕ) → is_eq (by_bytes other name) ≡ b → IsTrue (is_ordered s.held)
    → is_some (value_of other (unbind name s.held)) ≡ cond b false (is_held s other)
delete_holds true s name other e o =
    let same : other ≡ name = same_name other name (is_equal (by_bytes other name) e) in
    ap is_some (subst (λ x. value_of x (unbind name s.held) ≡ None) (sym same) (value-unbind name s.held o))
delete_holds false s name other e o = ap is_some (other-unbind name other s.held (differ other name e) o)

item_holds : (s : Source) (item : Item) (t : ℕ) (name : List ℕ) → IsTrue (is_ordered s.held)
    → is_held (after_item s item t) name ≡ cond (is_eq (by_bytes name (name_of item))) (leaves_held item) (is_held s name)
item_holds s (single.Put other kind bytes) t name o = put_holds (is_eq (by_bytes name other)) s other name _ refl
item_holds s (single.Delete other) t name o = delete_holds (is_eq (by_bytes name other)) s other name refl o

item_ordered : (s : Source) (item : Item) (t : ℕ) → IsTrue (is_ordered s.held) → s.last < t → IsTrue (is_ordered (after_item s item t).held)
item_ordered s (single.Put name kind bytes) t o after = ordered-bind name _ s.held o
item_ordered s (single.Delete name) t o after = ordered-unbind name s.held o

pub held_in_turn : (s : Source) (items : List Item) (now : ℕ) (name : List ℕ) → IsTrue (is_ordered s.held)
    → is_held (after_items s items now) name ≡ held_after items (is_held s name) name
held_in_turn s [] now name o = refl
held_in_turn s (item ∷ items) now name o =
    let t : ℕ = moment_at s now in
    held_in_turn (after_item s item t) items now name (item_ordered s item t o (omega arith))
    ∙ ap (λ h. held_after items h name) (item_holds s item t name o)

-- the refusal of an item
none_not : (o : Option Held) (b : Bool) → (not (is_some o) && b) ≡ (is_none o && b)
none_not None b = refl
none_not (Some held) b = refl

delete_by : (o : Option Held) (next : Option Refusal) → cond (is_some o) next (Some NotHeld) ≡ cond (is_none o) (Some NotHeld) next
delete_by None next = refl
delete_by (Some held) next = refl

item_decided : (s : Source) (item : Item) → item_refusal_by item (is_held s (name_of item)) (counts_of s) ≡ first_cause (item_causes s item)
item_decided s (single.Put name kind bytes) =
    ap (λ b. cond (nat_lt longest_body (length bytes)) (Some TooLong) (cond b (Some TooManyResources) (change_refusal_by (counts_of s))))
    (none_not (value_of name s.held) (nat_le most_resources (length s.held)))
item_decided s (single.Delete name) = delete_by (value_of name s.held) (change_refusal_by (counts_of s))

-- the counts after an item that is accepted
bound_count : (o : Option Held) (n : ℕ) → cond (is_none o) (n + 1) n ≡ cond (is_some o) n (n + 1)
bound_count None n = refl
bound_count (Some held) n = refl

held_if : (b : Bool) (next : Option Refusal) → cond b next (Some NotHeld) ≡ None → b ≡ true
held_if true next h = refl
held_if false next h = cc

resources_known : (s : Source) (item : Item) (t : ℕ) → item_refusal_by item (is_held s (name_of item)) (counts_of s) ≡ None
    → resources_after item (is_held s (name_of item)) (length s.held) ≡ length (after_item s item t).held
resources_known s (single.Put name kind bytes) t none =
    sym (length-bind name _ s.held ∙ bound_count (value_of name s.held) (length s.held))
resources_known s (single.Delete name) t none =
    let gone = length-unbound name s.held (held_if (is_held s name) (change_refusal_by (counts_of s)) none) in
    omega arith

counts_same : (a b c x y z : ℕ) → a ≡ x → b ≡ y → c ≡ z → counts_at a b c ≡ counts_at x y z
counts_same a b c x y z h k l = cc

counts_known : (s : Source) (item : Item) (now : ℕ) → item_refusal_by item (is_held s (name_of item)) (counts_of s) ≡ None
    → counts_after_item item (is_held s (name_of item)) (counts_of s) now ≡ counts_of (after_item s item (moment_at s now))
counts_known s item now none =
    let t : ℕ = moment_at s now in
    let changes : length s.changes + 1 ≡ length (after_item s item t).changes =
    omega (arith, ap length (item_changes s item t), length-append s.changes (change_of s item t ∷ [])) in
    counts_same _ _ _ _ _ _ (resources_known s item t none) changes (sym (item_last s item t))

-- the state after the first i of some items, and the rest of them
abbrev pub reached : Source → List Item → ℕ → ℕ → Source
reached s items now i = after_items s (take i items) now

-- Up to the item at i no item is refused, and these are the counts there.
pub record IsReached (s : Source) (items : List Item) (now i : ℕ) (known : Counts) : Type 0 where
  pub known_is : known ≡ counts_of (reached s items now i)
  pub rest : first_cause (items_causes s items now) ≡ first_cause (items_causes (reached s items now i) (drop i items) now)

pub none_reached : (s : Source) (items : List Item) (held : List Bool) (counts : Counts) (now : ℕ) → IsBefore s items held counts → IsReached s items now 0 counts
none_reached s items held counts now b = record { known_is = counts_same _ _ _ _ _ _ b.resources b.changes b.last; rest = refl }

-- the item at i
held_at : (s : Source) (items : List Item) (held : List Bool) (i : ℕ) (item : Item) → held ≡ map (λ x. is_held s (name_of x)) items → i < length items
    → item ≡ get_or items i item → get_or held i false ≡ is_held s (name_of item)
held_at s [] held i item e h is = absurd (omega arith)
held_at s (x ∷ items) held zero item e h is = ap (λ l. get_or l 0 false) e ∙ ap (λ y. is_held s (name_of y)) (sym is)
held_at s (x ∷ items) held (suc i) item e h is =
    ap (λ l. get_or l (suc i) false) e ∙ held_at s items (map (λ y. is_held s (name_of y)) items) i item refl (omega arith) is

pub known_held : (s : Source) (items : List Item) (held : List Bool) (counts : Counts) (now i : ℕ) (item : Item) (before h : Bool) → IsBefore s items held counts
    → i < length items → item ≡ get_or items i item → before ≡ get_or held i false → h ≡ held_after (take i items) before (name_of item)
    → h ≡ is_held (reached s items now i) (name_of item)
known_held s items held counts now i item before h b within is first after =
    after ∙ ap (λ x. held_after (take i items) x (name_of item)) (first ∙ held_at s items held i item b.held_is within is)
    ∙ sym (held_in_turn s (take i items) now (name_of item) b.ordered)

known_decided : (t : Source) (item : Item) (h : Bool) (known : Counts) → h ≡ is_held t (name_of item) → known ≡ counts_of t
    → item_refusal_by item h known ≡ item_refusal_by item (is_held t (name_of item)) (counts_of t)
known_decided t item h known e k = ap (λ x. item_refusal_by item x known) e ∙ ap (λ x. item_refusal_by item (is_held t (name_of item)) x) k

here : (items : List Item) (i : ℕ) (item : Item) → i < length items → item ≡ get_or items i item → drop i items ≡ item ∷ drop (suc i) items
here items i item within is = drop-cons items i item within ∙ ap (λ x. x ∷ drop (suc i) items) (sym is)

-- the decision there
decided_there : (s : Source) (items : List Item) (now i : ℕ) (known : Counts) (item : Item) (h : Bool) → IsReached s items now i known → i < length items
    → item ≡ get_or items i item → h ≡ is_held (reached s items now i) (name_of item)
    → first_cause (items_causes s items now)
    ≡ first_of (item_refusal_by item h known)
    (first_cause (items_causes (after_item (reached s items now i) item (moment_at (reached s items now i) now)) (drop (suc i) items) now))
decided_there s items now i known item h r within is e =
    let t : Source = reached s items now i in
    let next : Source = after_item t item (moment_at t now) in
    let rest : Option Refusal = first_cause (items_causes next (drop (suc i) items) now) in
    r.rest ∙ ap (λ l. first_cause (items_causes t l now)) (here items i item within is)
    ∙ first_cause-append (item_causes t item) (items_causes next (drop (suc i) items) now)
    ∙ ap (λ o. first_of o rest) (sym (known_decided t item h known e r.known_is ∙ item_decided t item))

if_good : (b : Bool) (one next : Option Refusal) → b ≡ false → cond b one next ≡ next
if_good true one next h = cc
if_good false one next h = refl

good_group : (s : Source) (items : List Item) (now : ℕ) → 1 ≤ length items → length items ≤ 16
    → refusal_of s (Group items) now ≡ first_cause (items_causes s items now)
good_group s items now low high =
    let good : is_bad_group items ≡ false = grind (arith, nat_tests) in
    if_good (is_bad_group items) (Some BadGroup) (first_cause (items_causes s items now)) good

pub refused_there : (s : Source) (items : List Item) (now i : ℕ) (known : Counts) (item : Item) (h : Bool) (refusal : Refusal) → IsReached s items now i known
    → i < length items → length items ≤ 16 → item ≡ get_or items i item → h ≡ is_held (reached s items now i) (name_of item)
    → Some refusal ≡ item_refusal_by item h known → Some refusal ≡ refusal_of s (Group items) now
refused_there s items now i known item h refusal r within high is e refused =
    let t : Source = reached s items now i in
    let rest : Option Refusal = first_cause (items_causes (after_item t item (moment_at t now)) (drop (suc i) items) now) in
    sym (good_group s items now (omega arith) high ∙ decided_there s items now i known item h r within is e ∙ ap (λ o. first_of o rest) (sym refused))

pub passed_there : (s : Source) (items : List Item) (now i : ℕ) (known next : Counts) (item : Item) (h : Bool) → IsReached s items now i known
    → i < length items → item ≡ get_or items i item → h ≡ is_held (reached s items now i) (name_of item)
    → item_refusal_by item h known ≡ None → next ≡ counts_after_item item h known now → IsReached s items now (i + 1) next
passed_there s items now i known next item h r within is e none new =
    let t : Source = reached s items now i in
    let u : Source = after_item t item (moment_at t now) in
    let front : take (i + 1) items ≡ take i items ++ item ∷ [] = take_more items i item within ∙ ap (λ x. take i items ++ x ∷ []) (sym is) in
    let same : reached s items now (i + 1) ≡ u = ap (λ l. after_items s l now) front ∙ after-append s (take i items) (item ∷ []) now in
    let one : suc i ≡ i + 1 = omega arith in
    record {
      known_is =
          new ∙ ap (λ x. counts_after_item item x known now) e ∙ ap (λ x. counts_after_item item (is_held t (name_of item)) x now) r.known_is
          ∙ counts_known t item now (sym (known_decided t item h known e r.known_is) ∙ none) ∙ ap counts_of (sym same);
      rest =
          decided_there s items now i known item h r within is e
          ∙ ap (λ o. first_of o (first_cause (items_causes u (drop (suc i) items) now))) none
          ∙ ap (λ n. first_cause (items_causes u (drop n items) now)) one
          ∙ ap (λ x. first_cause (items_causes x (drop (i + 1) items) now)) (sym same);
    }

pub all_passed : (s : Source) (items : List Item) (now i : ℕ) (known : Counts) → IsReached s items now i known → length items ≤ i
    → 1 ≤ length items → length items ≤ 16 → None ≡ refusal_of s (Group items) now
all_passed s items now i known r end low high =
    sym (good_group s items now low high ∙ r.rest ∙ ap (λ l. first_cause (items_causes (reached s items now i) l now)) (drop_all i items end))

-- which of the first names are held, in an array of 16
abbrev AreKnown : Source → List Item → List Bool → ℕ → Type 0
AreKnown s items held i = (length held ≡ 16) × (take i held ≡ map (λ item. is_held s (name_of item)) (take i items))

pub one_more_known : (s : Source) (items : List Item) (held : List Bool) (i : ℕ) (item : Item) (h : Bool) → i < length items → length items ≤ 16 → item ≡ get_or items i item
    → h ≡ is_held s (name_of item) → AreKnown s items held i → AreKnown s items (set held i h) (i + 1)
one_more_known s items held i item h within few is e known =
    let f = λ (x : Item). is_held s (name_of x) in
    let inside : i < length held = omega (arith, known.0) in
    let more : take (i + 1) items ≡ take i items ++ item ∷ [] = take_more items i item within ∙ ap (λ x. take i items ++ x ∷ []) (sym is) in (
      length-set held i h ∙ known.0,
      take_more_set held i h inside ∙ ap (λ l. l ++ h ∷ []) known.1 ∙ ap (λ x. map f (take i items) ++ x ∷ []) e
          ∙ sym (map-append f (take i items) (item ∷ [])) ∙ ap (map f) (sym more),
    )

pub all_known : (s : Source) (items : List Item) (held : List Bool) (i : ℕ) → AreKnown s items held i → i ≡ length items
    → take (length items) held ≡ map (λ item. is_held s (name_of item)) items
all_known s items held i known e =
    let f = λ (x : Item). is_held s (name_of x) in
    ap (λ n. take n held) (sym e) ∙ known.1 ∙ ap (map f) (take_all i items (omega (arith, e)))

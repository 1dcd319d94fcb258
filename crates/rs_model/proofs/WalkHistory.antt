-- The result of all changes that a walk records.
use Rattle.std.proofs.Common.{◌≡◌, ℕ, suc, zero, ◌-◌, ◌*◌, ◌<◌, ◌≤◌, List, [], ◌∷◌, ◌++◌, Bool, true, false, cond, nat_lt, length, take, drop, refl, sym, ap, subst, ◌∙◌, arith, Option, Some, None, append_assoc, append-nil}
use Rattle.std.specs.Prelude.{IsTrue}
use Rattle.std.specs.List.{AllByRecursion}
use Rattle.std.proofs.lemmas.Bool.Decides.{nat_tests}
use Rattle.std.proofs.lemmas.List.{take-append-drop, take-append-le, drop_all}
use Rattle.std.proofs.Math.Seq.{take-length, drop-append_seam}
use Rattle.rs_record.specs.Changes.{deleted}
use Rattle.rs_record.specs.declared.change.Change.{Change}
use Rattle.rs_model.specs.declared.command.Command.{Command}
use Rattle.rs_model.specs.declared.command.Command.TheVariants.{Put, Delete, Publish, Group}
use Rattle.rs_model.specs.declared.command.Item.{Item}
use Rattle.rs_model.specs.declared.command.Item.TheVariants as single
use Rattle.rs_model.specs.declared.command.Refusal.{Refusal}
use Rattle.rs_model.specs.declared.command.Reply.{Reply}
use Rattle.rs_model.specs.declared.event.Event.{Event}
use Rattle.rs_model.specs.declared.event.Event.TheVariants.{Tried, Refused, Stopped, Idle, Fetch}
use Rattle.rs_model.specs.declared.value.Entry.{Entry}
use Rattle.rs_model.specs.LaterChanges.{gone_between, KeepsChanges}
use Rattle.rs_model.specs.Names.{Names, bind, unbind}
use Rattle.rs_model.specs.State.{Source, start_of, facts_of, entries}
use Rattle.rs_model.specs.Step.{step, state_after, next_state, accepted_unless, refusal_of, reply_to, moment_at, after_item, after_items, mirror_of, mirror_step, applied, put_change}
use Rattle.rs_model.specs.Regular.{rises_from, IsAfter, IsChangeUpTo}
use Rattle.rs_model.specs.Walk.{after_event, walk_of, state_at, recorded_by, recorded, count_at, catalogue}
use Rattle.rs_model.proofs.DropLemmas.{all_taken, all_after, up_to_last}
use Rattle.rs_model.proofs.ItemLemmas.{change_of, item_changes, item_last, change_moment, AppendTo, items_append}
use Rattle.rs_model.proofs.LaterChangesLemmas.{none_published}
use Rattle.rs_model.proofs.LawfulLemmas.{all_appended}
use Rattle.rs_model.proofs.MirrorLemmas.{rises-append, mirror-append, mirror_before, entries-bind, entries-unbind}
use Rattle.rs_model.proofs.RegularLemmas.{changes_later}
use Rattle.rs_model.proofs.WalkLemmas.{recorded-append, recorded_first, walk_records}

-- the changes past those of an earlier state
abbrev past : Source → Source → List Change
past s t = drop (length s.changes) t.changes

-- A walk keeps a property of all recorded changes and the state, if items and publishes at a later moment keep it.
record IsKept (P : List Change → Source → Type 0) : Type 0 where
  by_item : (h : List Change) (s : Source) (item : Item) (t : ℕ) → P h s → s.last < t → P (h ++ change_of s item t ∷ []) (after_item s item t)
  by_publish : (h : List Change) (s : Source) (t : ℕ) → P h s → s.last < t → P h (next_state s Publish t)

none_past : (P : List Change → Source → Type 0) (h : List Change) (s : Source) → P h s → P (h ++ past s s) s
none_past P h s p =
    subst (λ l. P l s) (sym (ap (λ l. h ++ l) (drop_all (length s.changes) s.changes (omega arith)) ∙ append-nil h)) p

past_joined : (s next u : Source) (c : Change) (made : List Change) → next.changes ≡ s.changes ++ c ∷ [] → u.changes ≡ next.changes ++ made
    → past s u ≡ c ∷ past next u
past_joined s next u c made one rest =
    let whole : u.changes ≡ s.changes ++ c ∷ made = rest ∙ ap (λ l. l ++ made) one ∙ append_assoc s.changes (c ∷ []) made in
    let last : past next u ≡ made = ap (drop (length next.changes)) rest ∙ drop-append_seam next.changes made in
    ap (drop (length s.changes)) whole ∙ drop-append_seam s.changes (c ∷ made) ∙ ap (λ l. c ∷ l) (sym last)

kept_by_items : (P : List Change → Source → Type 0) → IsKept P → (h : List Change) (s : Source) (items : List Item) (now : ℕ) → P h s
    → P (h ++ past s (after_items s items now)) (after_items s items now)
kept_by_items P keeps h s [] now p = none_past P h s p
kept_by_items P keeps h s (item ∷ items) now p =
    let t : ℕ = moment_at s now in
    let next : Source = after_item s item t in
    let c : Change = change_of s item t in
    let u : Source = after_items next items now in
    let rest : AppendTo next items u = items_append next items now in
    let all : (h ++ c ∷ []) ++ past next u ≡ h ++ past s u =
    append_assoc h (c ∷ []) (past next u) ∙ ap (λ l. h ++ l) (sym (past_joined s next u c rest.made (item_changes s item t) rest.changes)) in
    subst (λ l. P l u) all (kept_by_items P keeps (h ++ c ∷ []) next items now (keeps.by_item h s item t p (omega arith)))

published : (P : List Change → Source → Type 0) (h : List Change) (s : Source) (t : ℕ) → P h (next_state s Publish t)
    → P (h ++ past s (next_state s Publish t)) (next_state s Publish t)
published P h s t p =
    subst (λ l. P l (next_state s Publish t)) (sym (ap (λ l. h ++ l) (none_published s t) ∙ append-nil h)) p

-- an accepted command: a put or a delete is one item at its moment
kept_by_next : (P : List Change → Source → Type 0) → IsKept P → (h : List Change) (s : Source) (command : Command) (now : ℕ) → P h s
    → P (h ++ past s (next_state s command (moment_at s now))) (next_state s command (moment_at s now))
kept_by_next P keeps h s (Put name kind bytes) now p = kept_by_items P keeps h s (single.Put name kind bytes ∷ []) now p
kept_by_next P keeps h s (Delete name) now p = kept_by_items P keeps h s (single.Delete name ∷ []) now p
kept_by_next P keeps h s Publish now p = published P h s (moment_at s now) (keeps.by_publish h s (moment_at s now) p (omega arith))
kept_by_next P keeps h s (Group items) now p = kept_by_items P keeps h s items (moment_at s now) p

unless_refused : (P : List Change → Source → Type 0) (h : List Change) (s : Source) (o : Option Refusal) (next : Source × Reply) → P h s
    → P (h ++ past s next.0) next.0 → P (h ++ past s (state_after s (accepted_unless o next))) (state_after s (accepted_unless o next))
unless_refused P h s None next p q = q
unless_refused P h s (Some refusal) next p q = none_past P h s p

kept_by_step : (P : List Change → Source → Type 0) → IsKept P → (h : List Change) (s : Source) (command : Command) (now : ℕ) → P h s
    → P (h ++ past s (state_after s (step s command now))) (state_after s (step s command now))
kept_by_step P keeps h s command now p =
    let t : ℕ = moment_at s now in
    unless_refused P h s (refusal_of s command now) (next_state s command t, reply_to s command t) p (kept_by_next P keeps h s command now p)

kept_by_event : (P : List Change → Source → Type 0) → IsKept P → (h : List Change) (s : Source) (event : Event) → P h s
    → P (h ++ recorded_by s event) (after_event s event)
kept_by_event P keeps h s (Tried command now) p = kept_by_step P keeps h s command now p
kept_by_event P keeps h s (Refused command) p = none_past P h s p
kept_by_event P keeps h s (Stopped command now true) p = kept_by_step P keeps h s command now p
kept_by_event P keeps h s (Stopped command now false) p = none_past P h s p
kept_by_event P keeps h s Idle p = none_past P h s p
kept_by_event P keeps h s Fetch p = none_past P h s p

kept_by_walk : (P : List Change → Source → Type 0) → IsKept P → (h : List Change) (s : Source) (events : List Event) → P h s
    → P (h ++ recorded s events) (walk_of s events)
kept_by_walk P keeps h s [] p = subst (λ l. P l s) (sym (append-nil h)) p
kept_by_walk P keeps h s (event ∷ events) p =
    let next : Source = after_event s event in
    subst (λ l. P l (walk_of next events)) (append_assoc h (recorded_by s event) (recorded next events))
    (kept_by_walk P keeps (h ++ recorded_by s event) next events (kept_by_event P keeps h s event p))

-- The changes rise from this moment on, up to the last one.
record AreInOrder (from : ℕ) (h : List Change) (s : Source) : Type 0 where
  low : from ≤ s.last
  rises : IsTrue (rises_from from h)
  latest : AllByRecursion (IsChangeUpTo s.last) h

-- The changes, of moments up to the last one, make the held resources: from the formatting on, and from the publication
-- on.
record AreAll (from : ℕ) (h : List Change) (s : Source) : Type 0 where
  start : from ≤ s.last
  at : s.at ≤ s.last
  latest : AllByRecursion (IsChangeUpTo s.last) h
  all : mirror_of [] from h ≡ entries s.held
  listed : mirror_of s.listed s.at h ≡ entries s.held

one_later : (low : ℕ) (h : List Change) (s t : Source) (c : Change) → AreInOrder low h s → s.last < c.moment → t.last ≡ c.moment → AreInOrder low (h ++ c ∷ []) t
one_later low h s t c o later e =
    record {
      low = omega (arith, o.low, later, e);
      rises = rises-append low s.last h c o.rises o.low o.latest later;
      latest = all_appended (IsChangeUpTo t.last) h c (changes_later s.last t.last h (omega (arith, later, e)) o.latest) (omega (arith, e));
    }

order_item : (low : ℕ) (h : List Change) (s : Source) (item : Item) (t : ℕ) → AreInOrder low h s → s.last < t
    → AreInOrder low (h ++ change_of s item t ∷ []) (after_item s item t)
order_item low h s item t o later =
    let moment : (change_of s item t).moment ≡ t = change_moment s item t in
    one_later low h s (after_item s item t) (change_of s item t) o (omega (arith, later, moment)) (item_last s item t ∙ sym moment)

order_kept : (low : ℕ) → IsKept (AreInOrder low)
order_kept low =
    record {
      by_item = order_item low;
      by_publish = λ h s t o later. record { low = omega (arith, o.low, later); rises = o.rises; latest = changes_later s.last t h (omega (arith, later)) o.latest };
    }

all_item : (start : ℕ) (h : List Change) (s : Source) (item : Item) (t : ℕ) → AreAll start h s → s.last < t
    → AreAll start (h ++ change_of s item t ∷ []) (after_item s item t)
all_item start h s (single.Put name kind bytes) t a later =
    let c : Change = put_change s name (facts_of kind bytes) t in
    let entry : Entry = record { facts = facts_of kind bytes; moment = t } in
    let bound : bind name entry (entries s.held) ≡ entries (bind name (record { bytes = bytes; entry = entry }) s.held) =
    sym (entries-bind name (record { bytes = bytes; entry = entry }) s.held) in
    record {
      start = omega (arith, a.start, later);
      at = omega (arith, a.at, later);
      latest = all_appended (IsChangeUpTo t) h c (changes_later s.last t h (omega (arith, later)) a.latest) (omega arith);
      all = mirror-append [] start h c (omega (arith, a.start, later)) ∙ ap (bind name entry) a.all ∙ bound;
      listed = mirror-append s.listed s.at h c (omega (arith, a.at, later)) ∙ ap (bind name entry) a.listed ∙ bound;
    }
all_item start h s (single.Delete name) t a later =
    let c : Change = deleted name t in
    let unbound : unbind name (entries s.held) ≡ entries (unbind name s.held) = sym (entries-unbind name s.held) in
    record {
      start = omega (arith, a.start, later);
      at = omega (arith, a.at, later);
      latest = all_appended (IsChangeUpTo t) h c (changes_later s.last t h (omega (arith, later)) a.latest) (omega arith);
      all = mirror-append [] start h c (omega (arith, a.start, later)) ∙ ap (unbind name) a.all ∙ unbound;
      listed = mirror-append s.listed s.at h c (omega (arith, a.at, later)) ∙ ap (unbind name) a.listed ∙ unbound;
    }

all_publish : (start : ℕ) (h : List Change) (s : Source) (t : ℕ) → AreAll start h s → s.last < t → AreAll start h (next_state s Publish t)
all_publish start h s t a later =
    let latest : AllByRecursion (IsChangeUpTo t) h = changes_later s.last t h (omega (arith, later)) a.latest in
    record {
      start = omega (arith, a.start, later);
      at = omega arith;
      latest = latest;
      all = a.all;
      listed = mirror_before (entries s.held) t h latest;
    }

all_kept : (start : ℕ) → IsKept (AreAll start)
all_kept start = record { by_item = all_item start; by_publish = all_publish start }

order_after : (s : Source) (events : List Event) → AreInOrder s.last (recorded s events) (walk_of s events)
order_after s events = kept_by_walk (AreInOrder s.last) (order_kept s.last) [] s events (record { low = omega arith; rises = refl; latest = tt })

all_after_start : (base : List ℕ) (limit moment : ℕ) (events : List Event)
    → AreAll moment (recorded (start_of base limit moment) events) (walk_of (start_of base limit moment) events)
all_after_start base limit moment events =
    kept_by_walk (AreAll moment) (all_kept moment) [] (start_of base limit moment) events
    (record { start = omega arith; at = omega arith; latest = tt; all = refl; listed = refl })

pub held_is_catalogued : (base : List ℕ) (limit moment : ℕ) (events : List Event)
    → entries (walk_of (start_of base limit moment) events).held
    ≡ catalogue (start_of base limit moment) events (length (recorded (start_of base limit moment) events))
held_is_catalogued base limit moment events =
    let s : Source = start_of base limit moment in
    sym (all_after_start base limit moment events).all ∙ ap (mirror_of [] moment) (sym (take-length (recorded s events)))

pub held_then_is_catalogued : (base : List ℕ) (limit moment : ℕ) (events : List Event) (i : ℕ)
    → entries (state_at (start_of base limit moment) events i).held
    ≡ catalogue (start_of base limit moment) events (count_at (start_of base limit moment) events i)
held_then_is_catalogued base limit moment events i =
    let s : Source = start_of base limit moment in
    sym (all_after_start base limit moment (take i events)).all ∙ ap (mirror_of [] moment) (sym (recorded_first s events i))

mirror_joined : (m : Names Entry) (at : ℕ) (a b : List Change) → mirror_of m at (a ++ b) ≡ mirror_of (mirror_of m at a) at b
mirror_joined m at [] b = refl
mirror_joined m at (c ∷ a) b = mirror_joined (mirror_step at c m) at a b

is_before : (n m : ℕ) → n < m → nat_lt n m ≡ true
is_before n m h = grind (arith, nat_tests)

one_test : (a b : Bool) (x y : Names Entry) → a ≡ true → b ≡ true → cond a x y ≡ cond b x y
one_test a b x y p q = ap (λ c. cond c x y) (p ∙ sym q)

-- of changes that are all after a moment, an earlier moment passes none over
mirror_late : (m : Names Entry) (low at start : ℕ) (cs : List Change) → AllByRecursion (IsAfter low) cs → at ≤ low → start ≤ low
    → mirror_of m at cs ≡ mirror_of m start cs
mirror_late m low at start [] h k l = refl
mirror_late m low at start (c ∷ cs) h k l =
    ap (λ x. mirror_of x at cs)
    (one_test (nat_lt at c.moment) (nat_lt start c.moment) (applied c.facts c m) m
    (is_before at c.moment (omega (arith, h.0))) (is_before start c.moment (omega (arith, h.0))))
    ∙ mirror_late (mirror_step start c m) low at start cs h.1 k l

taken_past : {A : Type 0} (a b : List A) (n : ℕ) → length a ≤ n → take n (a ++ b) ≡ a ++ take (n - length a) b
taken_past [] b n h = let e : n ≡ n - 0 = omega arith in ap (λ k. take k b) e
taken_past (x ∷ a) b zero h = absurd (omega arith)
taken_past (x ∷ a) b (suc n) h =
    let e : n - length a ≡ suc n - suc (length a) = omega arith in
    ap (λ l. x ∷ l) (taken_past a b n (omega arith) ∙ ap (λ k. a ++ take k b) e)

-- a walk records the changes that its first events record, and then the rest
recorded_split : (s : Source) (events : List Event) (i : ℕ)
    → recorded s events ≡ recorded s (take i events) ++ recorded (state_at s events i) (drop i events)
recorded_split s events i = ap (recorded s) (sym (take-append-drop i events)) ∙ recorded-append s (take i events) (drop i events)

-- a list that was published on the way, followed by changes
pub list_is_followed : (base : List ℕ) (limit moment : ℕ) (events : List Event) (i n : ℕ)
    → count_at (start_of base limit moment) events i ≤ n
    → mirror_of (state_at (start_of base limit moment) events i).listed (state_at (start_of base limit moment) events i).at
    (take n (recorded (start_of base limit moment) events))
    ≡ catalogue (start_of base limit moment) events n
list_is_followed base limit moment events i n h =
    let s : Source = start_of base limit moment in
    let t : Source = state_at s events i in
    let front : List Change = recorded s (take i events) in
    let rest : List Change = recorded t (drop i events) in
    let some : List Change = take (n - length front) rest in
    let a : AreAll moment front t = all_after_start base limit moment (take i events) in
    let taken : take n (recorded s events) ≡ front ++ some = ap (take n) (recorded_split s events i) ∙ taken_past front rest n h in
    let after : AllByRecursion (IsAfter t.last) some =
    all_taken (IsAfter t.last) (n - length front) rest (all_after t.last t.last rest (omega arith) (order_after t (drop i events)).rises) in
    ap (mirror_of t.listed t.at) taken ∙ mirror_joined t.listed t.at front some
    ∙ ap (λ m. mirror_of m t.at some) (a.listed ∙ sym a.all)
    ∙ mirror_late (mirror_of [] moment front) t.last t.at moment some after a.at a.start
    ∙ sym (ap (mirror_of [] moment) taken ∙ mirror_joined [] moment front some)

-- the first changes of which none is after the list's moment may be missing
mirror_rest : (m : Names Entry) (at k : ℕ) (cs : List Change) → AllByRecursion (IsChangeUpTo at) (take k cs) → mirror_of m at (drop k cs) ≡ mirror_of m at cs
mirror_rest m at k cs h =
    ap (λ x. mirror_of x at (drop k cs)) (sym (mirror_before m at (take k cs) h))
    ∙ sym (mirror_joined m at (take k cs) (drop k cs)) ∙ ap (mirror_of m at) (take-append-drop k cs)

-- the first k of the first n of some are among their first k
all_in_both : {A : Type 0} (P : A → Type 0) (k n : ℕ) (xs : List A) → AllByRecursion P (take k xs) → AllByRecursion P (take k (take n xs))
all_in_both P zero n xs h = tt
all_in_both P (suc k) zero xs h = tt
all_in_both P (suc k) (suc n) [] h = tt
all_in_both P (suc k) (suc n) (x ∷ xs) h = (h.0, all_in_both P k n xs h.1)

-- the changes dropped by a point of the walk are not after the moment at which its history begins
dropped_up_to : (base : List ℕ) (limit moment : ℕ) (events : List Event) (j : ℕ)
    → AllByRecursion (IsChangeUpTo (state_at (start_of base limit moment) events j).begin)
    (take ((state_at (start_of base limit moment) events j).first * limit) (recorded (start_of base limit moment) events))
dropped_up_to base limit moment events j =
    let s : Source = start_of base limit moment in
    let t : Source = state_at s events j in
    let front : List Change = recorded s (take j events) in
    let k : KeepsChanges s front t = walk_records s (take j events) in
    let gone : ℕ = gone_between s t in
    let taken : take gone (recorded s events) ≡ take gone front =
    ap (take gone) (recorded_split s events j) ∙ take-append-le gone front (recorded t (drop j events)) k.within in
    let whole : t.first - 0 ≡ t.first = omega arith in
    subst (λ n. AllByRecursion (IsChangeUpTo t.begin) (take (n * limit) (recorded s events))) whole
    (subst (AllByRecursion (IsChangeUpTo t.begin)) (sym taken)
    (subst (λ low. AllByRecursion (IsChangeUpTo low) (take gone front)) (sym k.begin)
    (up_to_last moment gone front (order_after s (take j events)).rises).1))

pub kept_list_is_followed : (base : List ℕ) (limit moment : ℕ) (events : List Event) (i j n : ℕ)
    → count_at (start_of base limit moment) events i ≤ n
    → (state_at (start_of base limit moment) events j).begin ≤ (state_at (start_of base limit moment) events i).at
    → mirror_of (state_at (start_of base limit moment) events i).listed (state_at (start_of base limit moment) events i).at
    (drop ((state_at (start_of base limit moment) events j).first * limit) (take n (recorded (start_of base limit moment) events)))
    ≡ catalogue (start_of base limit moment) events n
kept_list_is_followed base limit moment events i j n h within =
    let s : Source = start_of base limit moment in
    let list : Source = state_at s events i in
    let kept : Source = state_at s events j in
    let gone : ℕ = kept.first * limit in
    let early : AllByRecursion (IsChangeUpTo list.at) (take gone (recorded s events)) =
    changes_later kept.begin list.at (take gone (recorded s events)) within (dropped_up_to base limit moment events j) in
    mirror_rest list.listed list.at gone (take n (recorded s events)) (all_in_both (IsChangeUpTo list.at) gone n (recorded s events) early)
    ∙ list_is_followed base limit moment events i n h

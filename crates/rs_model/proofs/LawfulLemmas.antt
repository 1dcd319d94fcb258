-- Steps of lawful commands keep states lawful.
use Rattle.std.proofs.Common.{◌≡◌, ℕ, ◌+◌, ◌<◌, ◌≤◌, ◌^◌, List, [], ◌∷◌, ◌++◌, length, refl, sym, subst, ◌∙◌, arith, Option, Some, None, nat_le, length-append, length-drop, take}
use Rattle.std.specs.Prelude.{IsTrue, false}
use Rattle.std.specs.List.{AllByRecursion}
use Rattle.std.specs.declared.cmp.Ordering.{Ordering}
use Rattle.std.specs.declared.cmp.Ordering.TheVariants.{Less, Equal, Greater}
use Rattle.rs_time.specs.Moment.{IsMoment}
use Rattle.rs_record.specs.MediaType.{is_media_type}
use Rattle.rs_record.specs.Changes.{deleted}
use Rattle.rs_record.specs.declared.change.Change.{Change}
use Rattle.rs_model.specs.declared.command.Command.{Command}
use Rattle.rs_model.specs.declared.command.Command.TheVariants.{Put, Delete, Publish, Group}
use Rattle.rs_model.specs.declared.command.Item.{Item}
use Rattle.rs_model.specs.declared.command.Item.TheVariants as single
use Rattle.rs_model.specs.declared.command.Refusal.{Refusal}
use Rattle.rs_model.specs.declared.value.Held.{Held}
use Rattle.rs_model.specs.Names.{Names, by_bytes, by_order, bind, unbind, is_ordered}
use Rattle.rs_model.specs.State.{Source, facts_of, entries}
use Rattle.rs_model.specs.Step.{step, state_after, fold_of, accepted_unless, next_state, reply_to, refusal_of, first_cause, causes, put_causes, delete_causes, item_causes, items_causes, moment_at, after_put, after_delete, after_item, after_items, put_change, dropped_parts, dropped_changes}
use Rattle.rs_model.specs.Lawful.{AreFacts, IsEntry, IsHeld, IsChange, IsLawful, IsLawfulItem, IsLawfulCommand, IsLawfulTimed}
use Rattle.rs_model.proofs.FromBelow.{md5-bytes, sha256-bytes}
use Rattle.rs_model.proofs.DropLemmas.{all_taken, all_dropped, last_exists}
use Rattle.rs_model.proofs.GroupLemmas.{item_accepted, group_accepted, refused_alike}
use Rattle.rs_model.proofs.OrderLemmas.{ordered-bind, ordered-unbind, ordered-entries}
use Rattle.rs_model.proofs.RoomLemmas.{no_causes, below_if, at_most_if, length-bind, length-unbind, length-entries, room_to_put, change_to_put, change_to_delete}

pub facts_lawful : (kind bytes : List ℕ) → IsTrue (is_media_type kind) → length bytes ≤ 16777216 → AreFacts (facts_of kind bytes)
facts_lawful kind bytes k h = record { kind = k; length = omega arith; md5 = md5-bytes bytes; sha256 = sha256-bytes bytes }

-- one more element
pub all_appended : {A : Type 0} (P : A → Type 0) (a : List A) (x : A) → AllByRecursion P a → P x → AllByRecursion P (a ++ x ∷ [])
all_appended P [] x h p = (p, tt)
all_appended P (y ∷ a) x h p = (h.0, all_appended P a x h.1 p)

-- one more name, or one less
bind_by : {V : Type 0} (P : List ℕ × V → Type 0) (r : Ordering) (name : List ℕ) (v : V) (e : List ℕ × V) (m : Names V) → P (name, v) → P e → AllByRecursion P m → AllByRecursion P (bind name v m)
    → AllByRecursion P (by_order r ((name, v) ∷ e ∷ m) ((name, v) ∷ m) (e ∷ bind name v m))
bind_by P Less name v e m a b d f = (a, (b, d))
bind_by P Equal name v e m a b d f = (a, d)
bind_by P Greater name v e m a b d f = (b, f)

pub all_bound : {V : Type 0} (P : List ℕ × V → Type 0) (name : List ℕ) (v : V) (m : Names V) → P (name, v) → AllByRecursion P m → AllByRecursion P (bind name v m)
all_bound P name v [] a h = (a, tt)
all_bound P name v (e ∷ m) a h = bind_by P (by_bytes name e.0) name v e m a h.0 h.1 (all_bound P name v m a h.1)

unbind_by : {V : Type 0} (P : List ℕ × V → Type 0) (r : Ordering) (name : List ℕ) (e : List ℕ × V) (m : Names V) → P e → AllByRecursion P m → AllByRecursion P (unbind name m)
    → AllByRecursion P (by_order r (e ∷ m) m (e ∷ unbind name m))
unbind_by P Less name e m b d f = (b, d)
unbind_by P Equal name e m b d f = d
unbind_by P Greater name e m b d f = (b, f)

pub all_unbound : {V : Type 0} (P : List ℕ × V → Type 0) (name : List ℕ) (m : Names V) → AllByRecursion P m → AllByRecursion P (unbind name m)
all_unbound P name [] h = tt
all_unbound P name (e ∷ m) h = unbind_by P (by_bytes name e.0) name e m h.0 h.1 (all_unbound P name m h.1)

all_entries : (held : Names Held) → AllByRecursion IsHeld held → AllByRecursion IsEntry (entries held)
all_entries [] h = tt
all_entries (e ∷ held) h = (h.0, all_entries held h.1)

-- a state with this held and one change more
changed_lawful : (s : Source) (t : ℕ) (held : Names Held) (c : Change) → IsLawful s → IsMoment t → AllByRecursion IsHeld held → IsTrue (is_ordered held)
    → length held ≤ 50000 → IsChange c → length s.changes < 50000 → IsLawful (record s { last = t; held = held; changes = s.changes ++ c ∷ [] })
changed_lawful s t held c l m all order room is fewer =
    record {
      base = l.base;
      low = l.low;
      high = l.high;
      start = l.start;
      last = m;
      at = l.at;
      number = l.number;
      held = all;
      held_order = order;
      held_room = room;
      listed = l.listed;
      listed_order = l.listed_order;
      listed_room = l.listed_room;
      changes = all_appended IsChange s.changes c l.changes is;
      changes_room = omega (arith, fewer, length-append s.changes (c ∷ []));
      first = l.first;
      begin = l.begin;
    }

put_lawful : (s : Source) (name kind bytes : List ℕ) (t : ℕ) → IsLawful s → IsLawfulItem (single.Put name kind bytes) → IsMoment t → first_cause (put_causes s name bytes) ≡ None
    → IsLawful (after_put s name kind bytes t)
put_lawful s name kind bytes t l c m none =
    let cause = no_causes (put_causes s name bytes) none in
    let facts : AreFacts (facts_of kind bytes) = facts_lawful kind bytes c.1 (at_most_if 16777216 (length bytes) cause.0) in
    let held : Held = record { bytes = bytes; entry = record { facts = facts_of kind bytes; moment = t } } in
    changed_lawful s t (bind name held s.held) (put_change s name (facts_of kind bytes) t) l m
    (all_bound IsHeld name held s.held (record { name = c.0; facts = facts; moment = m }) l.held) (ordered-bind name held s.held l.held_order)
    (omega (arith, length-bind name held s.held, room_to_put name bytes s none l.held_room)) (record { name = c.0; facts = facts; moment = m })
    (change_to_put name bytes s none)

delete_lawful : (s : Source) (name : List ℕ) (t : ℕ) → IsLawful s → IsLawfulItem (single.Delete name) → IsMoment t → first_cause (delete_causes s name) ≡ None
    → IsLawful (after_delete s name t)
delete_lawful s name t l c m none =
    changed_lawful s t (unbind name s.held) (deleted name t) l m (all_unbound IsHeld name s.held l.held) (ordered-unbind name s.held l.held_order)
    (omega (arith, length-unbind name s.held, l.held_room)) (record { name = c; facts = tt; moment = m }) (change_to_delete name s none)

publish_lawful : (s : Source) (t : ℕ) → IsLawful s → IsMoment t → refusal_of s Publish t ≡ None → IsLawful (next_state s Publish t)
publish_lawful s t l m none =
    record {
      base = l.base;
      low = l.low;
      high = l.high;
      start = l.start;
      last = m;
      at = m;
      number = below_if (2 ^ 64) (s.number + 1) (no_causes (causes s Publish t) none).1.0;
      held = l.held;
      held_order = l.held_order;
      held_room = l.held_room;
      listed = all_entries s.held l.held;
      listed_order = ordered-entries s.held l.held_order;
      listed_room = omega (arith, length-entries s.held, l.held_room);
      changes = all_dropped IsChange (dropped_changes s) s.changes l.changes;
      changes_room = omega (arith, length-drop (dropped_changes s) s.changes, l.changes_room);
      first = at_most_if 253402300799999 (s.first + dropped_parts s) (no_causes (causes s Publish t) none).1.1.0;
      begin = last_exists s.begin (take (dropped_changes s) s.changes) l.begin (all_taken IsChange (dropped_changes s) s.changes l.changes);
    }

pub item_lawful : (s : Source) (item : Item) (t : ℕ) → IsLawful s → IsLawfulItem item → IsMoment t → first_cause (item_causes s item) ≡ None
    → IsLawful (after_item s item t)
item_lawful s (single.Put name kind bytes) t l c m none = put_lawful s name kind bytes t l c m none
item_lawful s (single.Delete name) t l c m none = delete_lawful s name t l c m none

-- the last cause of an item: no moment is left
item_left : (s : Source) (item : Item) → first_cause (item_causes s item) ≡ None → nat_le 253402300799999 s.last ≡ false
item_left s (single.Put name kind bytes) none = (no_causes (put_causes s name bytes) none).1.1.1.0
item_left s (single.Delete name) none = (no_causes (delete_causes s name) none).1.1.0

pub item_below : (s : Source) (item : Item) → first_cause (item_causes s item) ≡ None → s.last < 253402300799999
item_below s item none = below_if 253402300799999 s.last (item_left s item none)

-- accepted items
items_lawful : (s : Source) (items : List Item) (now : ℕ) → IsLawful s → AllByRecursion IsLawfulItem items → IsMoment now → first_cause (items_causes s items now) ≡ None
    → IsLawful (after_items s items now)
items_lawful s [] now l c m none = l
items_lawful s (item ∷ items) now l c m none =
    let t : ℕ = moment_at s now in
    let both = item_accepted s item items now none in
    let below : s.last < 253402300799999 = item_below s item both.0 in
    items_lawful (after_item s item t) items now (item_lawful s item t l c.0 (omega arith) both.0) c.1 m both.1

-- an accepted command
pub next_lawful : (s : Source) (command : Command) (t : ℕ) → IsLawful s → IsLawfulCommand command → IsMoment t → refusal_of s command t ≡ None → IsLawful (next_state s command t)
next_lawful s (Put name kind bytes) t l c m none = put_lawful s name kind bytes t l c m none
next_lawful s (Delete name) t l c m none = delete_lawful s name t l c m none
next_lawful s Publish t l c m none = publish_lawful s t l m none
next_lawful s (Group items) t l c m none = items_lawful s items t l c m (group_accepted s items t none).1

-- the fields of a state, which was u and is now new
pub kept_lawful : (s u new : Source) (command : Command) (t : ℕ) → s ≡ u → IsLawful s → IsLawfulCommand command → IsMoment t → refusal_of u command t ≡ None → new ≡ next_state u command t → IsLawful new
kept_lawful s u new command t same l c m none next =
    let lawful : IsLawful u = subst IsLawful same l in
    subst IsLawful (sym next) (next_lawful u command t lawful c m none)

items_left : (s : Source) (items : List Item) (now : ℕ) → refusal_of s (Group items) now ≡ None → nat_le 253402300799999 s.last ≡ false
items_left s [] now none = cc
items_left s (item ∷ items) now none = item_left s item (item_accepted s item items now (group_accepted s (item ∷ items) now none).1).0

-- the last cause of every command, or of its first item: no moment is left
moment_left : (s : Source) (command : Command) (now : ℕ) → refusal_of s command now ≡ None → nat_le 253402300799999 s.last ≡ false
moment_left s (Put name kind bytes) now none = (no_causes (put_causes s name bytes) none).1.1.1.0
moment_left s (Delete name) now none = (no_causes (delete_causes s name) none).1.1.0
moment_left s Publish now none = (no_causes (causes s Publish now) none).0
moment_left s (Group items) now none = items_left s items now none

pub below_greatest : (s : Source) (command : Command) (now : ℕ) → refusal_of s command now ≡ None → s.last < 253402300799999
below_greatest s command now none = below_if 253402300799999 s.last (moment_left s command now none)

pub moment_fits : (s : Source) (command : Command) (now : ℕ) → refusal_of s command now ≡ None → IsMoment now → IsMoment (moment_at s now)
moment_fits s command now none h = let below = below_greatest s command now none in omega arith

after_lawful : (s : Source) (command : Command) (now : ℕ) (o : Option Refusal) → refusal_of s command now ≡ o → IsLawful s → IsLawfulCommand command → IsMoment now
    → IsLawful (state_after s (accepted_unless o (next_state s command (moment_at s now), reply_to s command (moment_at s now))))
after_lawful s command now None e l c n = next_lawful s command (moment_at s now) l c (moment_fits s command now e n) (refused_alike s command now ∙ e)
after_lawful s command now (Some refusal) e l c n = l

pub step_lawful : (s : Source) (command : Command) (now : ℕ) → IsLawful s → IsLawfulCommand command → IsMoment now → IsLawful (state_after s (step s command now))
step_lawful s command now l c n = after_lawful s command now (refusal_of s command now) refl l c n

pub fold_lawful : (s : Source) (commands : List (Command × ℕ)) → IsLawful s → AllByRecursion IsLawfulTimed commands → IsLawful (fold_of s commands)
fold_lawful s [] l h = l
fold_lawful s (c ∷ commands) l h = fold_lawful (state_after s (step s c.0 c.1)) commands (step_lawful s c.0 c.1 l h.0.0 h.0.1) h.1

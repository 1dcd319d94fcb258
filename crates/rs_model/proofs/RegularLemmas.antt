-- A step keeps a state regular.
use Rattle.std.proofs.Common.{◌≡◌, ℕ, ◌<◌, ◌≤◌, ◌+◌, List, [], ◌∷◌, ◌++◌, take, drop, false, refl, sym, ap, subst, ◌∙◌, arith, Option, Some, None}
use Rattle.std.specs.Prelude.{IfOk, IsTrue}
use Rattle.std.specs.List.{AllByRecursion}
use Rattle.rs_model.specs.declared.value.Held.{Held}
use Rattle.rs_model.specs.declared.command.Command.{Command}
use Rattle.rs_model.specs.declared.command.Command.TheVariants.{Put, Delete, Publish, Group}
use Rattle.rs_model.specs.declared.command.Item.{Item}
use Rattle.rs_model.specs.declared.command.Item.TheVariants as single
use Rattle.rs_model.specs.declared.command.Reply.{Reply}
use Rattle.rs_model.specs.declared.command.Refusal.{Refusal}
use Rattle.std.proofs.lemmas.Bool.Decides.{nat_tests}
use Rattle.rs_time.specs.Moment.{IsMoment}
use Rattle.rs_record.specs.Changes.{deleted, last_moment}
use Rattle.rs_model.specs.Names.{Names, bind, unbind}
use Rattle.rs_model.specs.State.{Source, start_of, facts_of, entries}
use Rattle.rs_model.specs.Step.{step, state_after, fold_of, mirror_of, next_state, reply_to, accepted_unless, moment_at, refusal_of, after_put, after_delete, after_item, put_change, passed_by, dropped_parts, dropped_changes, is_out_of_parts}
use Rattle.rs_model.specs.declared.value.Entry.{Entry}
use Rattle.rs_record.specs.declared.change.Change.{Change}
use Rattle.rs_model.specs.Regular.{IsSound, IsUpTo, IsChangeUpTo, IsAfter, rises_from, IsRegular, IsTimely}
use Rattle.rs_model.proofs.DropLemmas.{all_dropped, rises_after, is_rising_from, all_after, rest_rises, last_later, last_passed, passed_within, parts_passed, changes_passed, dropped_within, few_parts}
use Rattle.rs_model.proofs.ItemLemmas.{kept_in_turn}
use Rattle.rs_model.proofs.LawfulLemmas.{all_appended, all_bound, all_unbound}
use Rattle.rs_model.proofs.MirrorLemmas.{rising-append, mirror-append, mirror_before, entries-bind, entries-unbind}

abbrev AreSound : Names Held → Type 0
AreSound held = AllByRecursion IsSound held

abbrev AreAllUpTo : ℕ → Names Entry → Type 0
AreAllUpTo last m = AllByRecursion (IsUpTo last) m

later : (last t : ℕ) (m : Names Entry) → last ≤ t → AreAllUpTo last m → AreAllUpTo t m
later last t [] k h = tt
later last t (e ∷ m) k h = (omega (arith, k, h.0), later last t m k h.1)

pub changes_later : (last t : ℕ) (cs : List Change) → last ≤ t → AllByRecursion (IsChangeUpTo last) cs → AllByRecursion (IsChangeUpTo t) cs
changes_later last t [] k h = tt
changes_later last t (c ∷ cs) k h = (omega (arith, k, h.0), changes_later last t cs k h.1)

pub start_regular : (base : List ℕ) (limit moment : ℕ) → IsRegular (start_of base limit moment)
start_regular base limit moment =
    record {
      sound = tt;
      rising = refl;
      start = omega arith;
      last = omega arith;
      latest = record { held = tt; changes = tt; listed = tt };
      begun = omega arith;
      kept = omega arith;
      first = omega arith;
      after = tt;
      mirrored = refl;
    }

-- a state with this held and one later change more
changed_regular : (s : Source) (held : Names Held) (c : Change) → IsRegular s → s.last < c.moment → AreSound held → AreAllUpTo c.moment (entries held)
    → mirror_of s.listed s.at (s.changes ++ c ∷ []) ≡ entries held → IsRegular (record s { last = c.moment; held = held; changes = s.changes ++ c ∷ [] })
changed_regular s held c r after sound up_to mirrored =
    let no_later : s.last ≤ c.moment = omega (arith, after) in
    record {
      sound = sound;
      rising = rising-append s.last s.changes c r.rising r.latest.changes after;
      start = r.start;
      last = omega (arith, r.last);
      latest =
          record {
            held = up_to;
            changes = all_appended (IsChangeUpTo c.moment) s.changes c (changes_later s.last c.moment s.changes no_later r.latest.changes) (omega arith);
            listed = later s.last c.moment s.listed no_later r.latest.listed;
          };
      begun = r.begun;
      kept = r.kept;
      first = r.first;
      after = all_appended (IsAfter s.begin) s.changes c r.after (omega (arith, r.kept, r.last, after));
      mirrored = mirrored;
    }

-- a put, a delete and a publish at a later moment
put_regular : (s : Source) (name kind bytes : List ℕ) (t : ℕ) → IsRegular s → s.last < t → IsRegular (after_put s name kind bytes t)
put_regular s name kind bytes t r after =
    let entry : Entry = record { facts = facts_of kind bytes; moment = t } in
    let new : Held = record { bytes = bytes; entry = entry } in
    let c : Change = put_change s name (facts_of kind bytes) t in
    let bound : entries (bind name new s.held) ≡ bind name entry (entries s.held) = entries-bind name new s.held in
    changed_regular s (bind name new s.held) c r after (all_bound IsSound name new s.held refl r.sound)
    (subst (AreAllUpTo t) (sym bound)
    (all_bound (IsUpTo t) name entry (entries s.held) (omega arith) (later s.last t (entries s.held) (omega (arith, after)) r.latest.held)))
    (mirror-append s.listed s.at s.changes c (omega (arith, r.last)) ∙ ap (bind name entry) r.mirrored ∙ sym bound)

delete_regular : (s : Source) (name : List ℕ) (t : ℕ) → IsRegular s → s.last < t → IsRegular (after_delete s name t)
delete_regular s name t r after =
    let unbound : entries (unbind name s.held) ≡ unbind name (entries s.held) = entries-unbind name s.held in
    changed_regular s (unbind name s.held) (deleted name t) r after (all_unbound IsSound name s.held r.sound)
    (subst (AreAllUpTo t) (sym unbound)
    (all_unbound (IsUpTo t) name (entries s.held) (later s.last t (entries s.held) (omega (arith, after)) r.latest.held)))
    (mirror-append s.listed s.at s.changes (deleted name t) (omega (arith, r.last)) ∙ ap (unbind name) r.mirrored ∙ sym unbound)

publish_regular : (s : Source) (t : ℕ) → IsRegular s → s.last < t → IsRegular (next_state s Publish t)
publish_regular s t r after =
    let no_later : s.last ≤ t = omega (arith, after) in
    let held : AreAllUpTo t (entries s.held) = later s.last t (entries s.held) no_later r.latest.held in
    let n : ℕ = dropped_changes s in
    let begin : ℕ = last_moment s.begin (take n s.changes) in
    let changes : AllByRecursion (IsChangeUpTo t) (drop n s.changes) =
    all_dropped (IsChangeUpTo t) n s.changes (changes_later s.last t s.changes no_later r.latest.changes) in
    let rises : IsTrue (rises_from s.begin s.changes) = rises_after s.begin s.changes r.rising r.after in
    let rest : IsTrue (rises_from begin (drop n s.changes)) = rest_rises s.begin n s.changes rises in
    let grown : s.begin + n ≤ begin = last_later s.begin n s.changes rises (dropped_within s) in
    let passed : begin ≤ s.at = last_passed s.at s.begin n s.changes r.kept (changes_passed s) in
    record {
      sound = r.sound;
      rising = is_rising_from begin (drop n s.changes) rest;
      start = omega (arith, r.start, r.last);
      last = omega arith;
      latest = record { held = held; changes = changes; listed = held };
      begun = omega (arith, r.begun, grown);
      kept = omega (arith, passed, r.last, after);
      first = omega (arith, r.first, r.begun, grown, few_parts s);
      after = all_after begin begin (drop n s.changes) (omega arith) rest;
      mirrored = mirror_before (entries s.held) t (drop n s.changes) changes;
    }

item_regular : (s : Source) (item : Item) (t : ℕ) → IsRegular s → s.last < t → IsRegular (after_item s item t)
item_regular s (single.Put name kind bytes) t r after = put_regular s name kind bytes t r after
item_regular s (single.Delete name) t r after = delete_regular s name t r after

-- an accepted command at a later moment
pub next_regular : (s : Source) (command : Command) (t : ℕ) → IsRegular s → s.last < t → IsRegular (next_state s command t)
next_regular s (Put name kind bytes) t r after = put_regular s name kind bytes t r after
next_regular s (Delete name) t r after = delete_regular s name t r after
next_regular s Publish t r after = publish_regular s t r after
next_regular s (Group items) t r after = kept_in_turn IsRegular item_regular s items t r

-- a regular state has a number for every part that a publication keeps
pub parts_left : (s : Source) → IsRegular s → IsMoment s.at → is_out_of_parts s ≡ false
parts_left s r m =
    let n : ℕ = passed_by s.at s.changes in
    let rises : IsTrue (rises_from s.begin s.changes) = rises_after s.begin s.changes r.rising r.after in
    let grown : s.begin + n ≤ last_moment s.begin (take n s.changes) = last_later s.begin n s.changes rises (passed_within s.at s.changes) in
    let passed : last_moment s.begin (take n s.changes) ≤ s.at = last_passed s.at s.begin n s.changes r.kept (omega arith) in
    let few : s.first + dropped_parts s ≤ 253402300799999 = omega (arith, r.first, r.begun, grown, passed, parts_passed s, m) in
    grind (arith, nat_tests)

pub start_timely : (base : List ℕ) (limit moment : ℕ) → IsTimely (start_of base limit moment)
start_timely base limit moment = record { listed = tt }

item_timely : (s : Source) (item : Item) (t : ℕ) → IsTimely s → s.last < t → IsTimely (after_item s item t)
item_timely s (single.Put name kind bytes) t timely after = record { listed = timely.listed }
item_timely s (single.Delete name) t timely after = record { listed = timely.listed }

-- the listed resources are those that were held, of moments up to the last one
pub next_timely : (s : Source) (command : Command) (t : ℕ) → IsRegular s → IsTimely s → s.last < t → IsTimely (next_state s command t)
next_timely s (Put name kind bytes) t r timely after = item_timely s (single.Put name kind bytes) t timely after
next_timely s (Delete name) t r timely after = item_timely s (single.Delete name) t timely after
next_timely s Publish t r timely after = record { listed = later s.last t (entries s.held) (omega (arith, after)) r.latest.held }
next_timely s (Group items) t r timely after = kept_in_turn IsTimely item_timely s items t timely

if_accepted : (o : Option Refusal) (next : Source × Reply) → IsRegular next.0 → IfOk (accepted_unless o next) (λ n. IsRegular n.0)
if_accepted None next h = h
if_accepted (Some refusal) next h = tt

pub step_regular : (s : Source) (command : Command) (now : ℕ) → IsRegular s → IfOk (step s command now) (λ next. IsRegular next.0)
step_regular s command now r = if_accepted (refusal_of s command now) _ (next_regular s command (moment_at s now) r (omega arith))

-- a refused command leaves the state unchanged
after_regular : (s : Source) (command : Command) (now : ℕ) (o : Option Refusal) → IsRegular s
    → IsRegular (state_after s (accepted_unless o (next_state s command (moment_at s now), reply_to s command (moment_at s now))))
after_regular s command now None r = next_regular s command (moment_at s now) r (omega arith)
after_regular s command now (Some refusal) r = r

pub fold_regular : (s : Source) (commands : List (Command × ℕ)) → IsRegular s → IsRegular (fold_of s commands)
fold_regular s [] r = r
fold_regular s (c ∷ commands) r = fold_regular (state_after s (step s c.0 c.1)) commands (after_regular s c.0 c.1 (refusal_of s c.0 c.1) r)

timely_if_accepted : (o : Option Refusal) (next : Source × Reply) → IsTimely next.0 → IfOk (accepted_unless o next) (λ n. IsTimely n.0)
timely_if_accepted None next h = h
timely_if_accepted (Some refusal) next h = tt

pub step_timely : (s : Source) (command : Command) (now : ℕ) → IsRegular s → IsTimely s → IfOk (step s command now) (λ next. IsTimely next.0)
step_timely s command now r timely =
    timely_if_accepted (refusal_of s command now) _ (next_timely s command (moment_at s now) r timely (omega arith))

timely_after : (s : Source) (command : Command) (now : ℕ) (o : Option Refusal) → IsRegular s → IsTimely s
    → IsTimely (state_after s (accepted_unless o (next_state s command (moment_at s now), reply_to s command (moment_at s now))))
timely_after s command now None r timely = next_timely s command (moment_at s now) r timely (omega arith)
timely_after s command now (Some refusal) r timely = timely

pub fold_timely : (s : Source) (commands : List (Command × ℕ)) → IsRegular s → IsTimely s → IsTimely (fold_of s commands)
fold_timely s [] r timely = timely
fold_timely s (c ∷ commands) r timely =
    fold_timely (state_after s (step s c.0 c.1)) commands (after_regular s c.0 c.1 (refusal_of s c.0 c.1) r)
    (timely_after s c.0 c.1 (refusal_of s c.0 c.1) r timely)

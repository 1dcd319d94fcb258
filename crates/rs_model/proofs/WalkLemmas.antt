-- Walks event by event: the commands done, and the changes recorded.
use Rattle.std.proofs.Common.{◌≡◌, ◌⊎◌, inl, inr, ℕ, suc, zero, ◌+◌, ◌-◌, ◌≤◌, ◌<◌, List, [], ◌∷◌, ◌++◌, take, drop, refl, sym, ap, ◌∙◌, subst, arith, Bool, true, false, nat_le, append_assoc}
use Rattle.std.specs.List.{AllByRecursion}
use Rattle.std.proofs.lemmas.Bool.Decides.{nat_tests}
use Rattle.std.proofs.lemmas.List.{take-append-drop, take-take}
use Rattle.std.proofs.Math.Seq.{take-append_seam}
use Rattle.rs_model.specs.declared.command.Command.{Command}
use Rattle.rs_model.specs.declared.event.Event.{Event}
use Rattle.rs_model.specs.declared.event.Event.TheVariants.{Tried, Refused, Stopped, Idle, Fetch}
use Rattle.rs_model.specs.State.{Source}
use Rattle.rs_model.specs.Step.{fold_of}
use Rattle.rs_model.specs.LaterChanges.{KeepsChanges}
use Rattle.rs_model.specs.Lawful.{IsLawful, IsLawfulTimed}
use Rattle.rs_model.specs.Walk.{after_event, walk_of, state_at, done_by, commands_of, IsLawfulEvent, recorded_by, recorded, count_at, IsPassed}
use Rattle.rs_model.proofs.LaterChangesLemmas.{IsNext, itself, joined, none_more, step_more}
use Rattle.rs_model.proofs.LawfulLemmas.{fold_lawful}

pub walk-append : (s : Source) (a b : List Event) → walk_of s (a ++ b) ≡ walk_of (walk_of s a) b
walk-append s [] b = refl
walk-append s (event ∷ a) b = walk-append (after_event s event) a b

-- the states after some events, and after more
pub walk_between : (s : Source) (events : List Event) (i j : ℕ) → i ≤ j
    → state_at s events j ≡ walk_of (state_at s events i) (drop i (take j events))
walk_between s events i j h =
    ap (walk_of s) (sym (ap (λ l. l ++ drop i (take j events)) (sym (take-take i j events h)) ∙ take-append-drop i (take j events)))
    ∙ walk-append s (take i events) (drop i (take j events))

pub walk_onward : (s : Source) (events : List Event) (i : ℕ) → walk_of s events ≡ walk_of (state_at s events i) (drop i events)
walk_onward s events i =
    ap (walk_of s) (sym (take-append-drop i events)) ∙ walk-append s (take i events) (drop i events)

-- the commands done
done : (s : Source) (event : Event) (commands : List (Command × ℕ)) → fold_of s (done_by event ++ commands) ≡ fold_of (after_event s event) commands
done s (Tried command now) commands = refl
done s (Refused command) commands = refl
done s (Stopped command now true) commands = refl
done s (Stopped command now false) commands = refl
done s Idle commands = refl
done s Fetch commands = refl

pub walk-fold : (s : Source) (events : List Event) → walk_of s events ≡ fold_of s (commands_of events)
walk-fold s [] = refl
walk-fold s (event ∷ events) = walk-fold (after_event s event) events ∙ sym (done s event (commands_of events))

all_joined : {A : Type 0} (P : A → Type 0) (a b : List A) → AllByRecursion P a → AllByRecursion P b → AllByRecursion P (a ++ b)
all_joined P [] b h k = k
all_joined P (x ∷ a) b h k = (h.0, all_joined P a b h.1 k)

lawful_commands : (events : List Event) → AllByRecursion IsLawfulEvent events → AllByRecursion IsLawfulTimed (commands_of events)
lawful_commands [] h = tt
lawful_commands (event ∷ events) h = all_joined IsLawfulTimed (done_by event) (commands_of events) h.0 (lawful_commands events h.1)

pub walk_lawful : (s : Source) (events : List Event) → IsLawful s → AllByRecursion IsLawfulEvent events → IsLawful (walk_of s events)
walk_lawful s events l h = subst IsLawful (sym (walk-fold s events)) (fold_lawful s (commands_of events) l (lawful_commands events h))

event_more : (s : Source) (event : Event) → IsNext s (after_event s event)
event_more s (Tried command now) = step_more s command now
event_more s (Refused command) = none_more s
event_more s (Stopped command now true) = step_more s command now
event_more s (Stopped command now false) = none_more s
event_more s Idle = none_more s
event_more s Fetch = none_more s

-- the changes that an event records
pub event_records : (s : Source) (event : Event) → KeepsChanges s (recorded_by s event) (after_event s event)
event_records s event =
    let next : IsNext s (after_event s event) = event_more s event in
    subst (λ more. KeepsChanges s more (after_event s event)) (sym next.recorded) next.kept

pub walk_records : (s : Source) (events : List Event) → KeepsChanges s (recorded s events) (walk_of s events)
walk_records s [] = itself s
walk_records s (event ∷ events) =
    let next : Source = after_event s event in
    joined s next (walk_of next events) (recorded_by s event) (recorded next events) (event_records s event) (walk_records next events)

pub recorded-append : (s : Source) (a b : List Event) → recorded s (a ++ b) ≡ recorded s a ++ recorded (walk_of s a) b
recorded-append s [] b = refl
recorded-append s (event ∷ a) b =
    ap (λ l. recorded_by s event ++ l) (recorded-append (after_event s event) a b)
    ∙ sym (append_assoc (recorded_by s event) (recorded (after_event s event) a) (recorded (walk_of (after_event s event) a) b))

-- the changes recorded by the first i events come first
pub recorded_first : (s : Source) (events : List Event) (i : ℕ) → take (count_at s events i) (recorded s events) ≡ recorded s (take i events)
recorded_first s events i =
    ap (take (count_at s events i)) (ap (recorded s) (sym (take-append-drop i events)) ∙ recorded-append s (take i events) (drop i events))
    ∙ take-append_seam (recorded s (take i events)) (recorded (state_at s events i) (drop i events))

-- Past a point before which a number is not reached: it is reached right there, or within the event between.
record IsCrossed (s : Source) (events : List Event) (i n : ℕ) : Type 0 where
  above : count_at s events i < n
  within : n ≤ count_at s events (suc i)

crossed : (b : Bool) (s : Source) (events : List Event) (first d n : ℕ) → nat_le (count_at s events (suc (first + d))) n ≡ b
    → IsCrossed s events (first + d) n → IsPassed s events first (suc (first + d)) n
crossed true s events first d n e h =
    let same : count_at s events (suc (first + d)) ≡ n = grind (arith, nat_tests, h.within) in
    record { point = suc (first + d); after_first = omega arith; by_last = omega arith; reached = omega arith; passed = inl same }
crossed false s events first d n e h =
    let more : n < count_at s events (suc (first + d)) = grind (arith, nat_tests) in
    record { point = first + d; after_first = omega arith; by_last = omega arith; reached = omega (arith, h.above); passed = inr (omega arith, more) }

before : (s : Source) (events : List Event) (first last n : ℕ) (p : IsPassed s events first last n)
    → (count_at s events p.point ≡ n) ⊎ ((p.point < last) × (n < count_at s events (suc p.point)))
    → IsPassed s events first (suc last) n
before s events first last n p (inl same) =
    record { point = p.point; after_first = p.after_first; by_last = omega (arith, p.by_last); reached = p.reached; passed = inl same }
before s events first last n p (inr more) =
    record { point = p.point; after_first = p.after_first; by_last = omega (arith, p.by_last); reached = p.reached; passed = inr (omega (arith, more.0), more.1) }

passed_by : (b : Bool) (s : Source) (events : List Event) (first d n : ℕ) → nat_le n (count_at s events (first + d)) ≡ b
    → n ≤ count_at s events (suc (first + d))
    → (n ≤ count_at s events (first + d) → IsPassed s events first (first + d) n) → IsPassed s events first (suc (first + d)) n
passed_by true s events first d n e h earlier =
    let p : IsPassed s events first (first + d) n = earlier (grind (arith, nat_tests)) in
    before s events first (first + d) n p p.passed
passed_by false s events first d n e h earlier =
    let above : count_at s events (first + d) < n = grind (arith, nat_tests) in
    crossed (nat_le (count_at s events (suc (first + d))) n) s events first d n refl (record { above = above; within = h })

passed_after : (s : Source) (events : List Event) (first d n : ℕ) → count_at s events first ≤ n → n ≤ count_at s events (first + d)
    → IsPassed s events first (first + d) n
passed_after s events first zero n low high =
    let e : first + 0 ≡ first = omega arith in
    let h : n ≤ count_at s events first = rw e at high in
    let same : count_at s events first ≡ n = omega (arith, low, h) in
    record { point = first; after_first = omega arith; by_last = omega arith; reached = low; passed = inl same }
passed_after s events first (suc d) n low high =
    let e : first + suc d ≡ suc (first + d) = omega arith in
    let h : n ≤ count_at s events (suc (first + d)) = rw e at high in
    subst (λ last. IsPassed s events first last n) (sym e)
    (passed_by (nat_le n (count_at s events (first + d))) s events first d n refl h (passed_after s events first d n low))

pub passed : (s : Source) (events : List Event) (first last n : ℕ) → first ≤ last → count_at s events first ≤ n → n ≤ count_at s events last
    → IsPassed s events first last n
passed s events first last n h low high =
    let e : last ≡ first + (last - first) = omega arith in
    subst (λ last. IsPassed s events first last n) (sym e)
    (passed_after s events first (last - first) n low (subst (λ j. n ≤ count_at s events j) e high))

-- A destination that asks sources of several sessions for both lists mirrors resources that were held.
use Rattle.std.proofs.Common.{◌≡◌, ◌⊎◌, inl, inr, ◌<◌, ◌≤◌, ◌+◌, ◌-◌, ℕ, zero, suc, Bool, true, false, List, [], ◌∷◌, ◌++◌, length, take, drop, map, refl, sym, ◌∙◌, ap, subst, arith, cond, Option, IsTrue, is_some, length-append}
use Rattle.std.specs.List.{AllByRecursion}
use Rattle.std.proofs.Math.Seq.{take-append_seam}
use Rattle.std.proofs.lemmas.List.{take-append-drop, take-take}
use Rattle.rs_record.specs.declared.change.Change.{Change}
use Rattle.rs_model.specs.State.{Source, start_of, entries}
use Rattle.rs_model.specs.Names.{Names}
use Rattle.rs_model.specs.Step.{fold_of, mirror_of}
use Rattle.rs_model.specs.Lawful.{IsLawful, IsLawfulTimed}
use Rattle.rs_model.specs.Walk.{state_at, IsLawfulEvent, count_at, catalogue}
use Rattle.rs_model.specs.WalkLaws.{HeldIsCatalogued}
use Rattle.rs_model.specs.declared.command.Command.{Command}
use Rattle.rs_model.specs.declared.event.Event.{Event}
use Rattle.rs_model.specs.declared.value.Entry.{Entry}
use Rattle.rs_caps.specs.Answer.{answer}
use Rattle.rs_caps.specs.Destination.{part_paths, fetched_at, IsFetchedPart, IsFollowed, Mirrors, WasHeld, DestinationMirrors, MirrorWasHeld}
use Rattle.rs_caps.specs.Gather.{gather_resources, gather_changes, listed_entry}
use Rattle.rs_store.specs.Counted.{is_accepted, is_in_doubt, answered}
use Rattle.rs_store.specs.declared.running.Ack.{Ack}
use Rattle.rs_recovery.specs.Sessions.{Session, asked, ended, counted, commands_left}
use Rattle.rs_recovery.specs.Served.{IsNoLater, IsPrefixOf, CommandsStand, SessionsStand}
use Rattle.rs_recovery.specs.Mirrored.{AreLawfulSessions, list_head, changes_head, Asked, answered_by, IsAskedPart, AsksBoth, changes_made, AreOfNext, IsMirrored, SessionsAreMirrored}
use Rattle.rs_recovery.proofs.Below.{Commands, Acks}
use Rattle.rs_recovery.proofs.Recorded.{tried, tried_behind, split_at, within_next}

-- if all elements have a property, all have every property that follows from it
all_so : {A : Type 0} (P Q : A → Type 0) → ((x : A) → P x → Q x) → (xs : List A) → AllByRecursion P xs → AllByRecursion Q xs
all_so P Q so [] all = tt
all_so P Q so (x ∷ xs) all = (so x all.0, all_so P Q so xs all.1)

all_both : {A : Type 0} (P Q : A → Type 0) (xs : List A) → AllByRecursion P xs → AllByRecursion Q xs → AllByRecursion (λ x. P x × Q x) xs
all_both P Q [] one other = tt
all_both P Q (x ∷ xs) one other = ((one.0, other.0), all_both P Q xs one.1 other.1)

all_joined : {A : Type 0} (P : A → Type 0) (xs ys : List A) → AllByRecursion P xs → AllByRecursion P ys → AllByRecursion P (xs ++ ys)
all_joined P [] ys one other = other
all_joined P (x ∷ xs) ys one other = (one.0, all_joined P xs ys one.1 other)

all_first : {A : Type 0} (P : A → Type 0) (n : ℕ) (xs : List A) → AllByRecursion P xs → AllByRecursion P (take n xs)
all_first P zero xs all = tt
all_first P (suc n) [] all = tt
all_first P (suc n) (x ∷ xs) all = (all.0, all_first P n xs all.1)

-- the surviving commands are lawful
one_more : (b : Bool) (c : Command × ℕ) (rest : Commands) → IsLawfulTimed c → AllByRecursion IsLawfulTimed rest → AllByRecursion IsLawfulTimed (cond b (c ∷ rest) rest)
one_more true c rest one all = (one, all)
one_more false c rest one all = all

answered_lawful : (test : Ack → Bool) (commands : Commands) (acks : Acks) → AllByRecursion IsLawfulTimed commands → AllByRecursion IsLawfulTimed (answered test commands acks)
answered_lawful test [] acks all = tt
answered_lawful test (c ∷ commands) [] all = tt
answered_lawful test (c ∷ commands) (a ∷ acks) all =
    one_more (test a) c (answered test commands acks) all.0 (answered_lawful test commands acks all.1)

standing_lawful : (sessions : List Session) (standing : List ℕ) → AreLawfulSessions sessions → AllByRecursion IsLawfulTimed (commands_left sessions standing)
standing_lawful [] standing all = tt
standing_lawful (x ∷ past) [] all = tt
standing_lawful (x ∷ past) (j ∷ standing) all =
    let these : AllByRecursion IsLawfulTimed (counted x) =
    all_joined IsLawfulTimed (answered is_accepted (asked x) (ended x)) (answered is_in_doubt (asked x) (ended x))
    (answered_lawful is_accepted (asked x) (ended x) all.0) (answered_lawful is_in_doubt (asked x) (ended x) all.0) in
    all_joined IsLawfulTimed (commands_left past standing) (take j (counted x))
    (standing_lawful past standing all.1) (all_first IsLawfulTimed j (counted x) these)

-- lawful commands are lawful events
tried_lawful : (commands : Commands) → AllByRecursion IsLawfulTimed commands → AllByRecursion IsLawfulEvent (map tried commands)
tried_lawful [] all = tt
tried_lawful (c ∷ commands) all = ((all.0, tt), tried_lawful commands all.1)

-- the first of some commands
first_are : (commands whole : Commands) → IsPrefixOf commands whole → take (length commands) whole ≡ commands
first_are commands whole is = ap (take (length commands)) (sym is.1) ∙ take-append_seam commands is.0

no_more : (commands whole : Commands) → IsPrefixOf commands whole → length commands ≤ length whole
no_more commands whole is = let all : length (commands ++ is.0) ≡ length whole = ap length is.1 in omega (arith, all, length-append commands is.0)

first_of_first : (n m : ℕ) (whole : Commands) → n ≤ m → IsPrefixOf (take n whole) (take m whole)
first_of_first n m whole le =
    (drop n (take m whole), ap (λ l. l ++ drop n (take m whole)) (sym (take-take n m whole le)) ∙ take-append-drop n (take m whole))

module _ (mirrors : DestinationMirrors) (was_held : MirrorWasHeld) (catalogued : HeldIsCatalogued)
    (base : List ℕ) (limit moment : ℕ) (before : Commands) (sessions : List Session) (standing : List ℕ)
    (lawful : IsLawful (start_of base limit moment)) (early : AllByRecursion IsLawfulTimed before) (all : AreLawfulSessions sessions)
    (stand : CommandsStand (fold_of (start_of base limit moment) before) sessions standing)
    (both : Asked (fold_of (start_of base limit moment) before) sessions standing) (asks : AsksBoth both.asking both.last) where
  abbrev formatted : Source
  formatted = start_of base limit moment

  abbrev start : Source
  start = fold_of formatted before

  abbrev whole : Commands
  whole = commands_left sessions standing

  abbrev events : List Event
  events = map tried (before ++ whole)

  abbrev when : List ℕ → ℕ
  when path = length before + length (both.behind path)

  abbrev latest : ℕ
  latest = length before + length both.behind_last

  -- the answers are those of the walk
  answered_alike : (path : List ℕ) → answered_by both.asking path ≡ fetched_at formatted events when path
  answered_alike path =
      let served = stand.served (both.asking path) (both.behind path) (both.served path) in
      let state : state_at formatted events (when path) ≡ fold_of start (both.behind path) =
      tried_behind formatted before whole (length (both.behind path)) ∙ ap (fold_of start) (first_are (both.behind path) whole served.1) in
      ap (λ t. answer t path) (served.0 ∙ sym state)

  alike : answered_by both.asking ≡ fetched_at formatted events when
  alike = λ i path. answered_alike path i

  -- an earlier request comes after no more commands
  later_path : (path other : List ℕ) → IsNoLater (both.asking path) (both.asking other) → when path ≤ when other
  later_path path other order =
      let front = stand.ordered (both.asking path) (both.asking other) (both.behind path) (both.behind other) order (both.served path) (both.served other) in
      omega (arith, no_more (both.behind path) (both.behind other) front)

  by_last : (path : List ℕ) → IsNoLater (both.asking path) both.last → when path ≤ latest
  by_last path order =
      let front = stand.ordered (both.asking path) both.last (both.behind path) both.behind_last order (both.served path) both.last_served in
      omega (arith, no_more (both.behind path) both.behind_last front)

  at_most : (path : List ℕ) → when path ≤ length before + length whole
  at_most path =
      omega (arith, no_more (both.behind path) whole (stand.served (both.asking path) (both.behind path) (both.served path)).1)

  last_stands : IsPrefixOf both.behind_last whole
  last_stands = (stand.served both.last both.behind_last both.last_served).1

  part_fetched : (head path : List ℕ) (last : ℕ) → IsAskedPart both.asking head path → when path ≤ last → IsFetchedPart formatted events when (when head) last path
  part_fetched head path last part le = record {
    after_head = later_path head path part.after_head;
    by_last = le;
    answered = subst (λ (found : Option (List ℕ)). IsTrue (is_some found)) (answered_alike path) part.answered;
  }

  followed : IsFollowed formatted events when (length before + length whole) latest
  followed = record {
    resources = record {
      by_last = at_most list_head;
      parts = λ text document found read.
          all_so (IsAskedPart both.asking list_head) (IsFetchedPart formatted events when (when list_head) (length before + length whole))
          (λ path part. part_fetched list_head path (length before + length whole) part (at_most path)) (part_paths document)
          (asks.resources text document (answered_alike list_head ∙ found) read);
    };
    order = later_path list_head changes_head asks.order;
    changes = record {
      by_last = by_last changes_head asks.head_by_last;
      parts = λ text document found read.
          let here = answered_alike changes_head ∙ found in
          let Part : List ℕ → Type 0 = IsAskedPart both.asking changes_head in
          let InTime : List ℕ → Type 0 = λ path. IsNoLater (both.asking path) both.last in
          all_so (λ path. Part path × InTime path) (IsFetchedPart formatted events when (when changes_head) latest)
          (λ path part. part_fetched changes_head path latest part.0 (by_last path part.1)) (part_paths document)
          (all_both Part InTime (part_paths document) (asks.changes text document here read) (asks.parts_by_last text document here read));
    };
    no_gap = λ at from listed changes resources moves.
        asks.no_gap (record { at = at; listed = listed; from = from; changes = changes })
        (record { resources = ap gather_resources alike ∙ resources; changes = ap gather_changes alike ∙ moves });
  }

  -- a mirror equals the resources held after the first j surviving commands, and then the first changes of the next one
  abbrev IsHeldWith : ℕ → Names Entry → List Change → Type 0
  IsHeldWith j mirror made =
      AreOfNext start (take j whole) both.behind_last made × (mirror ≡ mirror_of (entries (fold_of start (take j whole)).held) start.start made)

  held_with : (j n : ℕ) (mirror : Names Entry)
      → let p = length before + j in
      count_at formatted events p ≤ n → mirror ≡ catalogue formatted events n
      → (count_at formatted events p ≡ n → mirror ≡ entries (state_at formatted events p).held)
      → (count_at formatted events p ≡ n) ⊎ ((p < latest) × (n < count_at formatted events (suc p)))
      → (made : List Change) × IsHeldWith j mirror made
  held_with j n mirror low is held (inl same) =
      ([], (inl refl, held same ∙ ap (λ (t : Source). entries t.held) (tried_behind formatted before whole j)))
  held_with j n mirror low is held (inr (soon, high)) =
      let short : suc j ≤ length both.behind_last = omega (arith, soon) in
      let few : j < length whole = omega (arith, short, no_more both.behind_last whole last_stands) in
      let at = split_at j whole few in
      let found = within_next catalogued base limit moment before whole j n few low high in
      let k : ℕ = n - count_at formatted events (length before + j) in
      let front : IsPrefixOf (take j whole ++ at.0 ∷ []) both.behind_last =
      subst (λ (l : Commands). IsPrefixOf (take j whole ++ at.0 ∷ []) l) (first_are both.behind_last whole last_stands)
      (subst (λ (l : Commands). IsPrefixOf l (take (length both.behind_last) whole)) at.1 (first_of_first (suc j) (length both.behind_last) whole short)) in
      let made : List Change = take k (changes_made (fold_of start (take j whole)) at.0) in
      (made, (inr (record { next = at.0; comes = front; count = k; fewer = found.0; first = refl }), is ∙ found.1))

  -- the same for the resources held at a point of the walk
  held_at : (j : ℕ) (mirror : Names Entry) (w : WasHeld formatted events when latest mirror) → w.passed.point ≡ length before + j
      → (made : List Change) × IsHeldWith j mirror made
  held_at j mirror w at =
      held_with j w.n mirror
      (subst (λ (p : ℕ). count_at formatted events p ≤ w.n) at w.passed.reached)
      w.mirrored
      (subst (λ (p : ℕ). count_at formatted events p ≡ w.n → mirror ≡ entries (state_at formatted events p).held) at w.held)
      (subst (λ (p : ℕ). (count_at formatted events p ≡ w.n) ⊎ ((p < latest) × (w.n < count_at formatted events (suc p)))) at w.passed.passed)

  pub is_mirrored : IsMirrored start sessions standing both
  is_mirrored =
      let are = tried_lawful (before ++ whole) (all_joined IsLawfulTimed before whole early (standing_lawful sessions standing all)) in
      let done : ℕ = length before + length whole in
      let m : Mirrors formatted events when latest = mirrors base limit moment events when done latest lawful are followed in
      let mirror : Names Entry = mirror_of (map listed_entry m.listed) m.at m.changes in
      let w : WasHeld formatted events when latest mirror =
      was_held base limit moment events when done latest m.at m.start m.listed m.changes lawful are followed m.resources_gathered m.changes_gathered in
      let after : when changes_head ≤ w.passed.point = w.passed.after_first in
      let until : w.passed.point ≤ latest = w.passed.by_last in
      let j : ℕ = w.passed.point - length before in
      let is : w.passed.point ≡ length before + j = omega (arith, after) in
      let found = held_at j mirror w is in
      let last_first = first_are both.behind_last whole last_stands in
      let head_first = first_are (both.behind changes_head) whole (stand.served (both.asking changes_head) (both.behind changes_head) (both.served changes_head)).1 in
      record {
        gathered = record { at = m.at; listed = m.listed; from = m.start; changes = m.changes };
        commands = take j whole;
        made = found.0;
        has = record {
          resources = ap gather_resources alike ∙ m.resources_gathered;
          changes = ap gather_changes alike ∙ m.changes_gathered;
        };
        stand = record {
          after_head = subst (λ (l : Commands). IsPrefixOf l (take j whole)) head_first
              (first_of_first (length (both.behind changes_head)) j whole (omega (arith, after)));
          by_last = subst (λ (l : Commands). IsPrefixOf (take j whole) l) last_first
              (first_of_first j (length both.behind_last) whole (omega (arith, until)));
          survive = (drop j whole, take-append-drop j whole);
        };
        next = found.1.0;
        mirrored = found.1.1;
      }

pub sessions_mirrored : DestinationMirrors → MirrorWasHeld → HeldIsCatalogued → SessionsStand → SessionsAreMirrored
sessions_mirrored mirrors was_held catalogued stands base limit moment before sessions lawful early all are =
    let start : Source = fold_of (start_of base limit moment) before in
    let stand = stands start sessions are in (
      stand.0,
      stand.1,
      λ both asks. is_mirrored mirrors was_held catalogued base limit moment before sessions stand.0 lawful early all stand.1 both asks,
    )

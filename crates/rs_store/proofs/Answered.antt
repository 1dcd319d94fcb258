-- The answers of a source, by its progress in a command.
use Rattle.std.proofs.Common.{◌≡◌, ◌⊎◌, inl, inr, ℕ, Bool, true, false, List, length, refl, sym, ◌∙◌, ap, ap₂, subst, Option, Some, None, Result, Ok, Err, if◌then◌else◌, IsTrue}
use Rattle.rs_disk.specs.Medium.{Medium, DiskState, IsImage, IsMedium, resting}
use Rattle.rs_disk.specs.Leaves.{Leaves}
use Rattle.rs_disk.specs.Runs.{RunsWriting}
use Rattle.rs_store.proofs.FromBelow.{started, goes_on, weaker, writing_none, writing_as, resting_image, tells_behind}
use Rattle.rs_body.specs.Outside.{WritesOutside}
use Rattle.rs_commit.specs.declared.root.Root.{Root}
use Rattle.rs_commit.specs.Commit.{SameBehind, IsReady, OldOrNew}
use Rattle.rs_model.specs.State.{Source}
use Rattle.rs_model.specs.Step.{step, next_state, reply_to, moment_at, state_after, refusal_of, accepted_unless}
use Rattle.rs_model.specs.declared.command.Command.{Command}
use Rattle.rs_model.specs.declared.command.Reply.{Reply}
use Rattle.rs_model.specs.declared.command.Refusal as model
use Rattle.rs_model.specs.declared.command.Refusal.TheVariants as decides
use Rattle.rs_image.specs.declared.contents.Contents.{Contents}
use Rattle.rs_image.specs.Reach.{is_kept}
use Rattle.rs_image.specs.Whole.{IsWhole}
use Rattle.rs_image.specs.StateOfImage.{Tells, StandsFor, state_in, AreLists}
use Rattle.rs_plan.specs.declared.plan.Plan.{Plan}
use Rattle.rs_plan.specs.declared.planning.PlanFault.{PlanFault}
use Rattle.rs_plan.specs.declared.planning.PlanFault.TheVariants.{Full as NoRoom, NoMemory as NoPlanMemory}
use Rattle.rs_store.specs.declared.refusal.Refusal.{Refusal}
use Rattle.rs_store.specs.declared.refusal.Refusal.TheVariants.{Closed, Exhausted, Full, ReadFault, ShortBody, Device, Damaged, NoMemory}
use Rattle.rs_store.specs.Source.{Stored, Holds, rooted_in, state_of}
use Rattle.rs_store.specs.Refusals.{named_as, or_spent, is_spent, decided}
use Rattle.rs_plan.specs.Room.{bodies_of_command}
use Rattle.rs_plan.specs.Plans.{once_stored, planned_root, IsPlanned, IsFullFor, AreWritten}
use Rattle.rs_store.specs.Writing.{of_plan}
use Rattle.rs_store.specs.Commands.{IsCause, Leads}
use Rattle.rs_store.specs.Answered.{moment_unless, IsUnchanged, Answers}
use Rattle.rs_store.proofs.HasRoom.{planned_has_room}
use Rattle.rs_store.proofs.Stays.{ready_after, stands_meanwhile, told_after, stands_now, state_kept, state_behind, reach_kept}
use Rattle.rs_store.proofs.Follows.{state_follows, tells_next}

-- the answers of a source, and of the model
abbrev refusing : Refusal → Result Reply Refusal
refusing r = Err r

abbrev accepting : Source → Reply → Result (Source × Reply) model.Refusal
accepting s r = Ok (s, r)

-- the moment or the refusal in `moment_unless`
unless_err : (o : Option Refusal) (m : ℕ) (r : Refusal) → Err r ≡ moment_unless o m → o ≡ Some r
unless_err None m r is = absurd cc
unless_err (Some q) m r is = cc

pub unless_ok : (o : Option Refusal) (m n : ℕ) → Ok n ≡ moment_unless o m → (o ≡ None) × (n ≡ m)
unless_ok None m n is = (refl, cc)
unless_ok (Some q) m n is = absurd cc

no_device : NoMemory ≡ Device → ⊥
no_device is = absurd cc

no_full : NoMemory ≡ Full → ⊥
no_full is = absurd cc

none_some : (o : Option Refusal) (q : Refusal) → o ≡ None → o ≡ Some q → ⊥
none_some o q none some = absurd cc

-- the refusals that are decided at once
IsEarly : Refusal → Type 0
IsEarly Full = ⊥
IsEarly Device = ⊥
IsEarly Damaged = ⊥
IsEarly ReadFault = ⊥
IsEarly ShortBody = ⊥
IsEarly NoMemory = ⊥
IsEarly r = Unit {0}

early_named : (x : model.Refusal) → IsEarly (named_as x)
unfolding IsEarly
early_named decides.BadGroup = tt
early_named decides.TooLong = tt
early_named decides.NotHeld = tt
early_named decides.TooManyResources = tt
early_named decides.TooManyChanges = tt
early_named decides.Exhausted = tt

early : (closed : Bool) (o : Option model.Refusal) (spent : Bool) (r : Refusal) → (if closed then Some Closed else or_spent o spent) ≡ Some r → IsEarly r
unfolding IsEarly
early true o spent r is = let same : Closed ≡ r = cc in subst IsEarly same tt
early false (Some x) spent r is = let same : named_as x ≡ r = cc in subst IsEarly same (early_named x)
early false None true r is = let same : Exhausted ≡ r = cc in subst IsEarly same tt
early false None false r is = absurd cc

-- if no refusal is decided at once, the model accepts
allowed : (closed : Bool) (o : Option model.Refusal) (spent : Bool) → (if closed then Some Closed else or_spent o spent) ≡ None → o ≡ None
allowed true o spent is = absurd cc
allowed false (Some x) spent is = absurd cc
allowed false None spent is = refl

stepped : (s : Source) (command : Command) (now : ℕ) → refusal_of s command now ≡ None
    → step s command now ≡ Ok (next_state s command (moment_at s now), reply_to s command (moment_at s now))
stepped s command now is = ap (λ (o : Option model.Refusal). accepted_unless o (next_state s command (moment_at s now), reply_to s command (moment_at s now))) is

not_device : (r : Refusal) → IsEarly r → r ≡ Device → ⊥
unfolding IsEarly
not_device r is same = subst IsEarly same is

module _ {D : Type 0} (device : D → DiskState) (medium : (disk : D) → IsMedium (device disk).size (device disk).now) (old : Stored D) (command : Command) (now : ℕ) where
  early_cause : (new : Stored D) (r : Refusal) → IsEarly r → decided old (state_of device old) command now ≡ Some r → IsCause device old new command now r
  unfolding IsEarly
  early_cause new Full is given = absurd is
  early_cause new Device is given = absurd is
  early_cause new Damaged is given = absurd is
  early_cause new ReadFault is given = absurd is
  early_cause new ShortBody is given = absurd is
  early_cause new NoMemory is given = absurd is
  early_cause new refusal is given = given

  -- a closed source decides without any other cause
  decided_closed : IsTrue old.is_closed → decided old (state_of device old) command now ≡ Some Closed
  decided_closed shut = ap (λ (b : Bool). if b then Some Closed else or_spent (refusal_of (state_of device old) command now) (is_spent old)) shut

  kept_leads : (new : Stored D) (s : Source) (r : Refusal) → (r ≡ Device → ⊥) → Holds device new s → Leaves (device old.disk) (device new.disk) (λ _ image. StandsFor image s)
      → Leads device old new s (step s command now) (Err r)
  kept_leads new s Device other holds leaves = absurd (other refl)
  kept_leads new s refusal other holds leaves = (holds, leaves)

  -- the held state is the state that the lists determine
  tells_state : (s : Source) → Holds device old s → state_of device old ≡ s
  tells_state s holds = (holds.tells (device old.disk).now.seen (medium old.disk).image).state

  -- a refusal that leaves the memory unchanged
  kept_answers : (new : Stored D) (r : Refusal) → IsCause device old new command now r → (r ≡ Device → ⊥) → (r ≡ Full → new ≡ old)
      → ((q : Refusal) → decided old (state_of device old) command now ≡ Some q → (r ≡ q) × (new ≡ old))
      → new.is_closed ≡ old.is_closed → IsUnchanged device old new
      → ((s : Source) → Holds device old s → Holds device new s × Leaves (device old.disk) (device new.disk) (λ _ image. StandsFor image s))
      → RunsWriting ⊥ (device old.disk) (device new.disk) → Answers device old new command now (Err r)
  kept_answers new r cause other full given closed same leads runs =
      record {
        decides = λ q is. ap refusing (given q is).0;
        untouched = λ q is. (given q is).1;
        full = λ is. let here : r ≡ Full = cc in full here;
        refused = λ q is. let here : r ≡ q = cc in subst (λ (x : Refusal). IsCause device old new command now x) here cause;
        accepted = tt;
        planned = tt;
        generation = tt;
        version = tt;
        leads = λ s holds. kept_leads new s r other (leads s holds).0 (leads s holds).1;
        runs = writing_as (device old.disk) (device new.disk) (λ none. absurd none) (λ is. let here : r ≡ Device = cc in absurd (other here)) runs;
        closed = λ shut. let found = given Closed (decided_closed shut) in (ap refusing found.0, found.1);
        closes = λ is. let here : r ≡ Device = cc in absurd (other here);
        stays_open = λ _. closed;
        unchanged = λ q is not_it. same;
      }

  nothing_done : IsUnchanged device old old
  nothing_done = record { slots = refl; contents = refl; state = refl }

  no_call : RunsWriting ⊥ (device old.disk) (device old.disk)
  no_call = writing_none (device old.disk) (λ none. none)

  at_rest : (s : Source) → Holds device old s → Holds device old s × Leaves (device old.disk) (device old.disk) (λ _ image. StandsFor image s)
  at_rest s holds =
      (holds, started (device old.disk) (λ _ image. StandsFor image s) (stands_now old.slots old.contents s (device old.disk) (medium old.disk) holds.ready holds.tells))

  -- refused at once
  pub at_once : (r : Refusal) → Err r ≡ moment_unless (decided old (state_of device old) command now) (moment_at (state_of device old) now) → Answers device old old command now (Err r)
  at_once r found =
      let is : decided old (state_of device old) command now ≡ Some r = unless_err (decided old (state_of device old) command now) (moment_at (state_of device old) now) r found in
      let of_early : IsEarly r = early old.is_closed (refusal_of (state_of device old) command now) (is_spent old) r is in
      kept_answers old r (early_cause old r of_early is) (not_device r of_early) (λ _. refl) (λ q other. let same : r ≡ q = cc in (same, refl)) refl nothing_done at_rest no_call

  -- without a plan
  unplanned : (fault : PlanFault) → decided old (state_of device old) command now ≡ None
      → (fault ≡ NoRoom → IsFullFor (rooted_in device old) command (moment_at (state_of device old) now))
      → Answers device old old command now (Err (of_plan fault))
  unplanned NoRoom is room =
      kept_answers old Full (is, room refl) (λ (same : Full ≡ Device). absurd cc) (λ _. refl) (λ q other. absurd cc) refl nothing_done at_rest no_call
  unplanned NoPlanMemory is room =
      kept_answers old NoMemory is (λ (same : NoMemory ≡ Device). absurd cc) (λ _. refl) (λ q other. absurd cc) refl nothing_done at_rest no_call

  -- accepted at a moment, and planned by a source that did not change
  module _ (mid : Stored D) (same : mid ≡ old) (moment : ℕ) (found : Ok moment ≡ moment_unless (decided old (state_of device old) command now) (moment_at (state_of device old) now)) where
    accepted_at : (decided old (state_of device old) command now ≡ None) × (moment ≡ moment_at (state_of device old) now)
    accepted_at = unless_ok (decided old (state_of device old) command now) (moment_at (state_of device old) now) moment found

    pub not_planned : (fault : PlanFault) → (fault ≡ NoRoom → IsFullFor (rooted_in device old) command moment) → Answers device old mid command now (Err (of_plan fault))
    not_planned fault lacks =
        subst (λ (s : Stored D). Answers device old s command now (Err (of_plan fault))) (sym same)
        (unplanned fault accepted_at.0 (λ full. subst (λ (m : ℕ). IsFullFor (rooted_in device old) command m) accepted_at.1 (lacks full)))

    pub carried_on : (new : Stored D) (result : Result Reply Refusal) (p : Plan) → IsPlanned (rooted_in device old) command moment p
        → (decided mid (state_of device mid) command now ≡ None → IsPlanned (rooted_in device mid) command (moment_at (state_of device mid) now) p
        → Answers device mid new command now result)
        → Answers device old new command now result
    carried_on new result p planned answers =
        subst (λ (s : Stored D). decided s (state_of device s) command now ≡ None → IsPlanned (rooted_in device s) command (moment_at (state_of device s) now) p
        → Answers device s new command now result) same answers accepted_at.0 (subst (λ (m : ℕ). IsPlanned (rooted_in device old) command m p) accepted_at.1 planned)

  -- with a plan
  module _ (p : Plan) (bodies : List (List ℕ)) (whole : IsWhole (device old.disk).size old.slots.root old.contents)
      (free : decided old (state_of device old) command now ≡ None) (bodies_are : bodies_of_command command ≡ bodies)
      (planned : IsPlanned (rooted_in device old) command (moment_at (state_of device old) now) p)
      (mid : D) (run : WritesOutside (is_kept old.slots.root old.contents) (device old.disk) (device mid)) where
    kept_state : state_in (device mid).now.seen old.contents ≡ state_of device old
    kept_state =
        state_kept (is_kept old.slots.root old.contents) (device old.disk).size old.slots.root old.contents (device old.disk).now.seen (device mid).now.seen whole
        (reach_kept old.slots.root old.contents) run.seen

    -- memory ran out
    pub stopped : RunsWriting ⊥ (device old.disk) (device mid)
        → Answers device old (record { disk = mid; slots = old.slots; contents = old.contents; is_closed = old.is_closed }) command now (Err NoMemory)
    stopped runs =
        kept_answers (record { disk = mid; slots = old.slots; contents = old.contents; is_closed = old.is_closed }) NoMemory free
        (λ (is : NoMemory ≡ Device). absurd (no_device is)) (λ (is : NoMemory ≡ Full). absurd (no_full is)) (λ q other. absurd (none_some (decided old (state_of device old) command now) q free other)) refl
        (record { slots = refl; contents = refl; state = kept_state })
        (λ s holds. (
          record {
            is_open = holds.is_open;
            ready = ready_after old.slots old.contents (device old.disk) (device mid) holds.ready run;
            tells = told_after old.slots old.contents s (device old.disk) (medium old.disk) holds.ready holds.tells (device mid) run;
          },
          stands_meanwhile old.slots old.contents s (device old.disk) (medium old.disk) holds.ready holds.tells (device mid) run,
        ))
        runs

    next : Source → Source
    next s = next_state s command (moment_at s now)

    after_step : (s : Source) → Holds device old s → state_after s (step s command now) ≡ next s
    unfolding next
    after_step s holds =
        let is : refusal_of s command now ≡ None =
        subst (λ (x : Source). refusal_of x command now ≡ None) (tells_state s holds) (allowed old.is_closed (refusal_of (state_of device old) command now) (is_spent old) free) in
        ap (λ (x : Result (Source × Reply) model.Refusal). state_after s x) (stepped s command now is)

    -- the device failed
    broken : {A : Type 0} (new : Stored D) → new.is_closed ≡ true → A
        → ((s : Source) → Holds device old s → Leaves (device old.disk) (device new.disk) (λ _ image. StandsFor image s ⊎ StandsFor image (next s)))
        → RunsWriting A (device old.disk) (device new.disk) → Answers device old new command now (Err Device)
    unfolding next
    broken new closed failed leaves runs =
        record {
          decides = λ q is. absurd cc;
          untouched = λ q is. absurd cc;
          full = λ is. absurd cc;
          refused = λ q is. let here : Device ≡ q = cc in
              subst (λ (x : Refusal). IsCause device old new command now x) here
              (free, planned_has_room (rooted_in device old) command (moment_at (state_of device old) now) p planned, runs.runs.failed failed);
          accepted = tt;
          planned = tt;
          generation = tt;
          version = tt;
          leads = λ s holds. subst (λ (t : Source). Leaves (device old.disk) (device new.disk) (λ _ image. StandsFor image s ⊎ StandsFor image t))
              (sym (after_step s holds)) (leaves s holds);
          runs = writing_as (device old.disk) (device new.disk) (λ _. refl) (λ _. failed) runs;
          closed = λ shut. absurd (none_some (decided old (state_of device old) command now) Closed free (decided_closed shut));
          closes = λ _. closed;
          stays_open = λ is. absurd (is refl);
          unchanged = λ q is other. let here : q ≡ Device = cc in absurd (other here);
        }

    early_leaves : (t : Source → Source) (s : Source) → Holds device old s → Leaves (device old.disk) (device mid) (λ _ image. StandsFor image s ⊎ StandsFor image (t s))
    early_leaves t s holds =
        weaker (device old.disk) (device mid) (λ _ image. StandsFor image s) (λ _ image. StandsFor image s ⊎ StandsFor image (t s)) (λ m image stands. inl stands)
        (stands_meanwhile old.slots old.contents s (device old.disk) (medium old.disk) holds.ready holds.tells (device mid) run)

    pub broken_off : {A : Type 0} (new : Stored D) → new.disk ≡ mid → new.is_closed ≡ true → A
        → RunsWriting A (device old.disk) (device new.disk) → Answers device old new command now (Err Device)
    unfolding next
    broken_off new disk closed failed runs =
        broken new closed failed
        (λ s holds. subst (λ (d : D). Leaves (device old.disk) (device d) (λ _ image. StandsFor image s ⊎ StandsFor image (next s))) (sym disk) (early_leaves next s holds))
        runs

    -- the lists and bodies were written, before the commit
    module _ (there : AreWritten p bodies (device mid).now.seen) (lists : AreLists (once_stored p.contents)) (size : (device mid).size ≡ (device old.disk).size)
        (root : Root) (root_is : root ≡ planned_root old.slots.root p) where
      long : length (device mid).now.seen ≡ (device old.disk).size
      long = (medium mid).image.size ∙ (medium mid).settled ∙ size

      tells_new : (s : Source) → Holds device old s → Tells root (once_stored p.contents) (device mid).now.seen (next s)
      unfolding next
      tells_new s holds =
          let told = told_after old.slots old.contents s (device old.disk) (medium old.disk) holds.ready holds.tells (device mid) run
          (device mid).now.seen (medium mid).image in
          let there_next = tells_next (device old.disk).size old.slots.root old.contents command (moment_at (state_of device old) now) p bodies (device mid).now.seen s
          planned bodies_are there lists long told in
          let moment : Tells (planned_root old.slots.root p) (once_stored p.contents) (device mid).now.seen (next_state s command (moment_at s now)) =
          subst (λ (x : Source). Tells (planned_root old.slots.root p) (once_stored p.contents) (device mid).now.seen (next_state s command (moment_at x now)))
          (tells_state s holds) there_next in
          subst (λ (r : Root). Tells r (once_stored p.contents) (device mid).now.seen (next_state s command (moment_at s now))) (sym root_is) moment

      flipped : (one two : List ℕ) → SameBehind one two → SameBehind two one
      flipped one two same = record { size = sym same.size; bytes = sym same.bytes }

      outcome : (s : Source) → Holds device old s → (image : List ℕ) → OldOrNew (device mid).now old.slots.root root image → StandsFor image s ⊎ StandsFor image (next s)
      unfolding next
      outcome s holds image (inl (opens, (e, left, same))) =
          inl (
            old.slots.root,
            opens,
            (
              old.contents,
              tells_behind old.slots.root old.contents e image s (flipped image e same)
                  (told_after old.slots old.contents s (device old.disk) (medium old.disk) holds.ready holds.tells (device mid) run e left),
            ),
          )
      outcome s holds image (inr (opens, same)) =
          inr (
            root,
            opens,
            (
              once_stored p.contents,
              tells_behind root (once_stored p.contents) (device mid).now.seen image (next s)
                  (flipped image (device mid).now.seen same) (tells_new s holds),
            ),
          )

      meanwhile : (last : D) → (IsReady old.slots (device mid).now → Leaves (device mid) (device last) (λ _. OldOrNew (device mid).now old.slots.root root))
          → (s : Source) → Holds device old s → Leaves (device old.disk) (device last) (λ _ image. StandsFor image s ⊎ StandsFor image (next s))
      unfolding next
      meanwhile last any s holds =
          goes_on (device old.disk) (device mid) (device last) (λ _ image. StandsFor image s ⊎ StandsFor image (next s)) (early_leaves next s holds)
          (weaker (device mid) (device last) (λ _. OldOrNew (device mid).now old.slots.root root) (λ _ image. StandsFor image s ⊎ StandsFor image (next s))
          (λ m image left. outcome s holds image left)
          (any (ready_after old.slots old.contents (device old.disk) (device mid) holds.ready run)))

      pub not_committed : {A : Type 0} (new : Stored D) → (IsReady old.slots (device mid).now → Leaves (device mid) (device new.disk) (λ _. OldOrNew (device mid).now old.slots.root root))
          → new.is_closed ≡ true → A → RunsWriting A (device old.disk) (device new.disk) → Answers device old new command now (Err Device)
      not_committed new any closed failed runs = broken new closed failed (meanwhile new.disk any) runs

      pub committed : (new : Stored D) (reply : Reply) (settled : List ℕ)
          → (IsReady old.slots (device mid).now → Leaves (device mid) (device new.disk) (λ _. OldOrNew (device mid).now old.slots.root root))
          → new.slots.root ≡ root → new.contents ≡ once_stored p.contents → new.is_closed ≡ old.is_closed
          → (IsReady old.slots (device mid).now → IsReady new.slots (device new.disk).now)
          → SameBehind (device new.disk).now.seen (device mid).now.seen → (device new.disk).now ≡ resting settled
          → reply ≡ reply_to (state_of device old) command (moment_at (state_of device old) now)
          → RunsWriting ⊥ (device old.disk) (device new.disk) → Answers device old new command now (Ok reply)
      unfolding next
      committed new reply settled any at contents closed ready same rests replied runs =
          let moment = moment_at (state_of device old) now in
          let seen = (device mid).now.seen in
          let last = (device new.disk).now.seen in
          let state : state_of device new ≡ next_state (state_of device old) command moment =
          ap (λ (c : Contents). state_in last c) contents
          ∙ state_behind (device old.disk).size (planned_root old.slots.root p) (once_stored p.contents) seen last planned.whole (flipped last seen same)
          ∙ state_follows (device old.disk).size old.slots.root old.contents command moment p bodies seen planned bodies_are there
          ∙ ap (λ (s : Source). next_state s command moment) kept_state in
          let is : refusal_of (state_of device old) command now ≡ None = allowed old.is_closed (refusal_of (state_of device old) command now) (is_spent old) free in
          let steps : step (state_of device old) command now ≡ Ok (state_of device new, reply) =
          stepped (state_of device old) command now is
          ∙ ap₂ accepting (sym state) (sym replied) in
          record {
            decides = λ q other. absurd cc;
            untouched = λ q other. absurd cc;
            full = λ other. absurd cc;
            refused = λ q other. absurd cc;
            accepted = steps;
            planned = record { plan = p; planned = planned; contents = contents; root = at ∙ root_is };
            generation = ap (λ (r : Root). r.generation) (at ∙ root_is);
            version = ap (λ (r : Root). r.version) (at ∙ root_is);
            leads = λ s holds.
                let of : state_of device old ≡ s = tells_state s holds in
                let t : next s ≡ state_of device new = ap (λ (x : Source). next_state x command (moment_at x now)) (sym of) ∙ sym state in
                let image_is : (image : List ℕ) → IsImage (device new.disk).now image → image ≡ last =
                λ image left. resting_image settled image (subst (λ (m : Medium). IsImage m image) rests left) ∙ sym (ap (λ (m : Medium). m.seen) rests) in
                let told : Tells new.slots.root new.contents last (state_of device new) =
                subst (λ (x : Source). Tells new.slots.root new.contents last x) t
                (subst (λ (r : Root). Tells r new.contents last (next s)) (sym at)
                (subst (λ (c : Contents). Tells root c last (next s)) (sym contents)
                (tells_behind root (once_stored p.contents) seen last (next s) (flipped last seen same) (tells_new s holds)))) in (
                  state_of device new,
                  subst (λ (x : Source). step x command now ≡ Ok (state_of device new, reply)) of steps,
                  record {
                    is_open = closed ∙ holds.is_open;
                    ready = ready (ready_after old.slots old.contents (device old.disk) (device mid) holds.ready run);
                    tells = λ image left. subst (λ (l : List ℕ). Tells new.slots.root new.contents l (state_of device new)) (sym (image_is image left)) told;
                  },
                  subst (λ (x : Source). Leaves (device old.disk) (device new.disk) (λ _ image. StandsFor image s ⊎ StandsFor image x)) t (meanwhile new.disk any s holds),
                );
            runs = writing_as (device old.disk) (device new.disk) (λ none. absurd none) (λ is. absurd cc) runs;
            closed = λ shut. absurd (none_some (decided old (state_of device old) command now) Closed free (decided_closed shut));
            closes = λ other. absurd cc;
            stays_open = λ _. closed;
            unchanged = λ q other. absurd cc;
          }

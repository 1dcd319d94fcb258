-- The answers of a source once the bodies of a plan are written, by its progress. They cover the time since before the
-- bodies were written.
use Rattle.std.proofs.Common.{◌≡◌, ℕ, true, List, refl, sym, ◌∙◌, ap, subst, None, Ok, Err, Result}
use Rattle.rs_disk.specs.Medium.{DiskState, IsMedium, resting}
use Rattle.rs_disk.specs.Leaves.{Leaves}
use Rattle.rs_disk.specs.Runs.{RunsWriting}
use Rattle.rs_store.proofs.FromBelow.{writing_as, writing_then, outside_on}
use Rattle.rs_body.specs.Outside.{WritesOutside, WritesOnly}
use Rattle.rs_commit.specs.declared.root.Root.{Root}
use Rattle.rs_commit.specs.Slots.{Standing}
use Rattle.rs_commit.specs.Commit.{SameBehind, IsReady, OldOrNew}
use Rattle.rs_model.specs.Step.{moment_at}
use Rattle.rs_model.specs.declared.command.Command.{Command}
use Rattle.rs_model.specs.declared.command.Reply.{Reply}
use Rattle.rs_image.specs.declared.contents.Contents.{Contents}
use Rattle.rs_image.specs.Reach.{is_kept}
use Rattle.rs_image.specs.Whole.{IsWhole}
use Rattle.rs_plan.specs.declared.plan.Plan.{Plan}
use Rattle.rs_plan.specs.Room.{bodies_of_command}
use Rattle.rs_plan.specs.Plans.{once_stored, places, planned_root, IsPlanned}
use Rattle.rs_store.specs.declared.refusal.Refusal.{Refusal}
use Rattle.rs_store.specs.declared.refusal.Refusal.TheVariants.{Device, NoMemory}
use Rattle.rs_store.specs.Source.{Stored, rooted_in, state_of}
use Rattle.rs_store.specs.Refusals.{decided}
use Rattle.rs_store.specs.Writing.{AreStoredLists, HasWrittenBodies}
use Rattle.rs_store.specs.Answered.{Answers}
use Rattle.rs_store.proofs.Answered.{stopped, broken_off, not_committed, committed}

-- the promise of the end of a command, for every command that has the plan and every beginning of its bodies
abbrev pub Promised : {D : Type 0} → (D → DiskState) → Plan → Stored D → Result Reply Refusal → Stored D → Type 0
Promised {D} device p new result now =
    (start : Stored D) (command : Command) (moment : ℕ) → HasWrittenBodies device start now p (bodies_of_command command)
    → decided start (state_of device start) command moment ≡ None
    → IsPlanned (rooted_in device start) command (moment_at (state_of device start) moment) p
    → Answers device start new command moment result

module _ {D : Type 0} (device : D → DiskState) (medium : (disk : D) → IsMedium (device disk).size (device disk).now) (now : Stored D) (p : Plan)
    (whole : IsWhole (device now.disk).size now.slots.root now.contents)
    (mid : D) (A : Type 0) (writes : WritesOnly (places p) A (device now.disk) (device mid)) where
  module _ (start : Stored D) (command : Command) (moment : ℕ) (begun : HasWrittenBodies device start now p (bodies_of_command command))
      (free : decided start (state_of device start) command moment ≡ None)
      (planned : IsPlanned (rooted_in device start) command (moment_at (state_of device start) moment) p) where
    all_outside : WritesOutside (is_kept start.slots.root start.contents) (device start.disk) (device mid)
    all_outside =
        outside_on (is_kept start.slots.root start.contents) (device start.disk) (device now.disk) (device mid) begun.outside
        (writes.outside (is_kept start.slots.root start.contents) planned.free)

    all_runs : RunsWriting A (device start.disk) (device mid)
    all_runs = writing_then (device start.disk) (device now.disk) (device mid) (λ none. none) begun.runs writes.runs

    all_unmet : ¬ A → RunsWriting ⊥ (device start.disk) (device mid)
    all_unmet well = writing_as (device start.disk) (device mid) well (λ none. absurd none) all_runs

    was_whole : IsWhole (device start.disk).size start.slots.root start.contents
    was_whole =
        subst (λ (n : ℕ). IsWhole n start.slots.root start.contents) begun.runs.runs.size
        (subst (λ (s : Standing). IsWhole (device now.disk).size s.root start.contents) begun.slots
        (subst (λ (c : Contents). IsWhole (device now.disk).size now.slots.root c) begun.contents whole))

    stopped_so : ¬ A
        → Answers device start (record { disk = mid; slots = now.slots; contents = now.contents; is_closed = now.is_closed }) command moment (Err NoMemory)
    stopped_so unmet =
        let left : Stored D = record { disk = mid; slots = now.slots; contents = now.contents; is_closed = now.is_closed } in
        let was : Stored D = record { disk = mid; slots = start.slots; contents = start.contents; is_closed = start.is_closed } in
        let same : was ≡ left = λ i. record { disk = mid; slots = sym begun.slots i; contents = sym begun.contents i; is_closed = sym begun.is_closed i } in
        subst (λ (new : Stored D). Answers device start new command moment (Err NoMemory)) same
        (stopped device medium start command moment p (bodies_of_command command) was_whole free refl planned mid all_outside (all_unmet unmet))

    broken_so : (new : Stored D) → new.disk ≡ mid → new.is_closed ≡ true → A → Answers device start new command moment (Err Device)
    broken_so new disk closed failed =
        broken_off device medium start command moment p (bodies_of_command command) was_whole free refl planned mid all_outside new disk closed failed
        (subst (λ (d : D). RunsWriting A (device start.disk) (device d)) (sym disk) all_runs)

    module _ (p' : Plan) (stored : AreStoredLists p p' (device now.disk).now.seen (device mid).now.seen) (root : Root) (root_is : root ≡ planned_root now.slots.root p)
        (new : Stored D) (any : IsReady now.slots (device mid).now → Leaves (device mid) (device new.disk) (λ _. OldOrNew (device mid).now now.slots.root root))
        (B : Type 0) (further : RunsWriting B (device mid) (device new.disk)) where
      was_any : IsReady start.slots (device mid).now → Leaves (device mid) (device new.disk) (λ _. OldOrNew (device mid).now start.slots.root root)
      was_any =
          subst (λ (s : Standing). IsReady s (device mid).now → Leaves (device mid) (device new.disk) (λ _. OldOrNew (device mid).now s.root root)) begun.slots any

      was_next : root ≡ planned_root start.slots.root p
      was_next = root_is ∙ ap (λ (s : Standing). planned_root s.root p) begun.slots

      not_committed_so : ¬ A → new.is_closed ≡ true → B → Answers device start new command moment (Err Device)
      not_committed_so unmet closed failed =
          not_committed device medium start command moment p (bodies_of_command command) was_whole free refl planned mid all_outside
          (stored.reads (bodies_of_command command) planned.bodies begun.stand) stored.lists all_runs.runs.size root was_next new was_any closed
          failed (writing_then (device start.disk) (device mid) (device new.disk) unmet all_runs further)

      committed_so : (reply : Reply) (settled : List ℕ) → new.slots.root ≡ root → new.contents ≡ once_stored p.contents → new.is_closed ≡ now.is_closed
          → (IsReady now.slots (device mid).now → IsReady new.slots (device new.disk).now)
          → SameBehind (device new.disk).now.seen (device mid).now.seen → (device new.disk).now ≡ resting settled → reply ≡ p.reply
          → ¬ A → ¬ B
          → Answers device start new command moment (Ok reply)
      committed_so reply settled at lists closed ready behind rests replied unmet further_unmet =
          committed device medium start command moment p (bodies_of_command command) was_whole free refl planned mid all_outside
          (stored.reads (bodies_of_command command) planned.bodies begun.stand) stored.lists all_runs.runs.size root was_next new reply settled was_any at lists
          (closed ∙ begun.is_closed) (subst (λ (s : Standing). IsReady s (device mid).now → IsReady new.slots (device new.disk).now) begun.slots ready)
          behind rests (replied ∙ planned.reply (device start.disk).now.seen)
          (writing_as (device start.disk) (device new.disk) further_unmet (λ none. absurd none)
          (writing_then (device start.disk) (device mid) (device new.disk) unmet all_runs further))

  -- memory ran out
  pub stopped_behind : ¬ A
      → Promised device p (record { disk = mid; slots = now.slots; contents = now.contents; is_closed = now.is_closed }) (Err NoMemory) now
  stopped_behind unmet start command moment begun free planned = stopped_so start command moment begun free planned unmet

  -- the device failed
  pub broken_behind : (new : Stored D) → new.disk ≡ mid → new.is_closed ≡ true → A → Promised device p new (Err Device) now
  broken_behind new disk closed failed start command moment begun free planned = broken_so start command moment begun free planned new disk closed failed

  -- the lists were written, before the commit
  module _ (p' : Plan) (stored : AreStoredLists p p' (device now.disk).now.seen (device mid).now.seen) (root : Root) (root_is : root ≡ planned_root now.slots.root p)
      (new : Stored D) (any : IsReady now.slots (device mid).now → Leaves (device mid) (device new.disk) (λ _. OldOrNew (device mid).now now.slots.root root))
      (B : Type 0) (further : RunsWriting B (device mid) (device new.disk)) where
    pub not_committed_behind : ¬ A → new.is_closed ≡ true → B → Promised device p new (Err Device) now
    not_committed_behind unmet closed failed start command moment begun free planned =
        not_committed_so start command moment begun free planned p' stored root root_is new any B further unmet closed failed

    pub committed_behind : (reply : Reply) (settled : List ℕ) → new.slots.root ≡ root → new.contents ≡ once_stored p.contents → new.is_closed ≡ now.is_closed
        → (IsReady now.slots (device mid).now → IsReady new.slots (device new.disk).now)
        → SameBehind (device new.disk).now.seen (device mid).now.seen → (device new.disk).now ≡ resting settled → reply ≡ p.reply
        → ¬ A → ¬ B
        → Promised device p new (Ok reply) now
    committed_behind reply settled at lists closed ready behind rests replied unmet further_unmet start command moment begun free planned =
        committed_so start command moment begun free planned p' stored root root_is new any B further reply settled at lists closed ready behind rests replied unmet further_unmet

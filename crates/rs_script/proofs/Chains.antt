-- The stored source after a statement, and the state that its commands make.
use Rattle.std.proofs.Common.{◌≡◌, ◌≤◌, ℕ, List, [], Result, Ok, Err, true, false, refl, ap, sym, ◌∙◌, subst, inl, inr, arith, IsTrue}
use Rattle.rs_disk.specs.Medium.{DiskState, IsImage, Medium}
use Rattle.rs_commit.specs.Slots.{Standing}
use Rattle.rs_commit.specs.Commit.{IsReady}
use Rattle.rs_model.specs.State.{Source}
use Rattle.rs_model.specs.Step.{state_after, fold_of}
use Rattle.rs_model.specs.declared.command.Command.{Command}
use Rattle.rs_model.specs.declared.command.Reply.{Reply}
use Rattle.rs_image.specs.declared.contents.Contents.{Contents}
use Rattle.rs_image.specs.StateOfImage.{Tells, state_in}
use Rattle.rs_store.specs.Answered.{Answers}
use Rattle.rs_store.specs.Source.{Stored, Holds, state_of}
use Rattle.rs_store.specs.declared.refusal.Refusal as stored
use Rattle.rs_store.specs.declared.refusal.Refusal.TheVariants.{Closed, BadGroup, TooLong, NotHeld, TooManyResources, TooManyChanges, Exhausted, Full, ReadFault, ShortBody, Device, Damaged, NoMemory}
use Rattle.rs_recovery.specs.Prefixes.{counted_as}
use Rattle.rs_script.specs.declared.refusal.Refusal.{Refusal}
use Rattle.rs_script.specs.declared.request.Request.{Request}
use Rattle.rs_script.specs.declared.request.Request.TheVariants.{At, Run, Document, Body, Status, Verify}
use Rattle.rs_store.specs.OnlyReads.{OnlyReads}
use Rattle.rs_script.specs.Outcomes.{outcome_of_reply, AskedGives, AnswerGives, LineGives, StatementGives}
use Rattle.rs_script.specs.Requests.{request_of}
use Rattle.rs_script.specs.Room.{TakesRoom, GroupTakesRoom}
use Rattle.rs_script.specs.Statements.{Statement, single, grouped, cut_off, request_by}
use Rattle.rs_script.specs.Script.{IsMachine}
use Rattle.rs_script.specs.Session.{ScriptState, Answer}

-- the source after a statement, which may be as it was
pub record Follows {D : Type 0} (device : D → DiskState) (old new : Stored D) (commands : List (Command × ℕ)) : Type 0 where
  -- the device was honest, if it is
  pub lasts : IsTrue (device new.disk).honest → IsTrue (device old.disk).honest
  -- it was open, if it is
  pub opened : new.is_closed ≡ false → old.is_closed ≡ false
  -- its state is the fold of the commands, while it is open
  pub folds : new.is_closed ≡ false → state_of device new ≡ fold_of (state_of device old) commands
  -- and so is the state that it holds
  pub holds : (s : Source) → Holds device old s → new.is_closed ≡ false → Holds device new (fold_of s commands)

module _ {D : Type 0} (device : D → DiskState) (old : Stored D) where
  -- the source did not change
  stays : Follows device old old []
  stays = record { lasts = λ h. h; opened = λ h. h; folds = λ _. refl; holds = λ s held free. held }

  -- a command was refused, and the device did not fail
  refused_follows : (new : Stored D) (command : Command) (now : ℕ) (r : stored.Refusal) (commands : List (Command × ℕ)) → (r ≡ Device → ⊥)
      → commands ≡ [] → Answers device old new command now (Err r) → ((s : Source) → Holds device old s → Holds device new s)
      → Follows device old new commands
  refused_follows new command now r commands other none a holds =
      rw none record {
        lasts = λ h. subst IsTrue a.runs.keeps h;
        opened = λ h. sym (a.stays_open (λ (is : _). let same : r ≡ Device = cc in other same)) ∙ h;
        folds = λ _. (a.unchanged r refl other).state;
        holds = λ s held free. holds s held;
      }

  -- the source got a command
  run_follows : (new : Stored D) (command : Command) (now : ℕ) (result : Result Reply stored.Refusal) (commands : List (Command × ℕ))
      → commands ≡ counted_as command now result → Answers device old new command now result → Follows device old new commands
  run_follows new command now (Ok reply) commands is a =
      rw is record {
        lasts = λ h. subst IsTrue a.runs.keeps h;
        opened = λ h. sym (a.stays_open (λ e. absurd cc)) ∙ h;
        folds = λ _. sym (ap (state_after (state_of device old)) a.accepted);
        holds = λ s held free.
            let led = a.leads s held in
            subst (Holds device new) (sym (ap (state_after s) led.1)) led.2;
      }
  run_follows new command now (Err Device) commands is a =
      let shut : new.is_closed ≡ true = a.closes refl in
      record {
        lasts = λ h. subst IsTrue a.runs.keeps h;
        opened = λ h. absurd cc;
        folds = λ h. absurd cc;
        holds = λ s held h. absurd cc;
      }
  run_follows new command now (Err Closed) commands is a = refused_follows new command now Closed commands (λ e. absurd cc) is a (λ s held. (a.leads s held).0)
  run_follows new command now (Err BadGroup) commands is a = refused_follows new command now BadGroup commands (λ e. absurd cc) is a (λ s held. (a.leads s held).0)
  run_follows new command now (Err TooLong) commands is a = refused_follows new command now TooLong commands (λ e. absurd cc) is a (λ s held. (a.leads s held).0)
  run_follows new command now (Err NotHeld) commands is a = refused_follows new command now NotHeld commands (λ e. absurd cc) is a (λ s held. (a.leads s held).0)
  run_follows new command now (Err TooManyResources) commands is a = refused_follows new command now TooManyResources commands (λ e. absurd cc) is a (λ s held. (a.leads s held).0)
  run_follows new command now (Err TooManyChanges) commands is a = refused_follows new command now TooManyChanges commands (λ e. absurd cc) is a (λ s held. (a.leads s held).0)
  run_follows new command now (Err Exhausted) commands is a = refused_follows new command now Exhausted commands (λ e. absurd cc) is a (λ s held. (a.leads s held).0)
  run_follows new command now (Err Full) commands is a = refused_follows new command now Full commands (λ e. absurd cc) is a (λ s held. (a.leads s held).0)
  run_follows new command now (Err Damaged) commands is a = refused_follows new command now Damaged commands (λ e. absurd cc) is a (λ s held. (a.leads s held).0)
  run_follows new command now (Err ReadFault) commands is a = absurd (a.refused ReadFault refl)
  run_follows new command now (Err ShortBody) commands is a = absurd (a.refused ShortBody refl)
  run_follows new command now (Err NoMemory) commands is a = refused_follows new command now NoMemory commands (λ e. absurd cc) is a (λ s held. (a.leads s held).0)

  -- the source was only read
  read_follows : (new : Stored D) (commands : List (Command × ℕ)) → commands ≡ [] → OnlyReads device old new → Follows device old new commands
  read_follows new commands none a =
      rw none record {
        lasts = a.rests.lasts;
        opened = λ h. sym a.is_closed ∙ h;
        folds = λ _. ap (λ (held : Medium). state_in held.seen new.contents) a.rests.now ∙ ap (state_in (device old.disk).now.seen) a.contents;
        holds = λ s held free. record {
          is_open = free;
          ready = subst (λ (slots : Standing). IsReady slots (device new.disk).now) (sym a.slots) (subst (IsReady old.slots) (sym a.rests.now) held.ready);
          tells = λ image is.
              let was : IsImage (device old.disk).now image = subst (λ (m : Medium). IsImage m image) a.rests.now is in
              subst (λ (slots : Standing). Tells slots.root new.contents image s) (sym a.slots)
              (subst (λ (c : Contents). Tells old.slots.root c image s) (sym a.contents) (held.tells image was));
        };
      }

module _ {D : Type 0} (device : D → DiskState) (old : ScriptState (Stored D)) (answer : Answer (Stored D)) where
  AnswerFollows : Answer (Stored D) → Type 0
  AnswerFollows a = Follows device old.source a.session.source a.commands

  request_follows : (request : Result Request Refusal) → AskedGives device old request answer → AnswerFollows answer
  unfolding AnswerFollows
  request_follows (Ok (At t)) e = subst AnswerFollows (sym e) (stays device old.source)
  request_follows (Ok (Run command)) r = run_follows device old.source answer.session.source command old.now r.result answer.commands r.commands r.answers
  request_follows (Ok (Document doc)) e = subst AnswerFollows (sym e) (stays device old.source)
  request_follows (Ok (Body name)) r = read_follows device old.source answer.session.source answer.commands r.commands r.answers.reads_only
  request_follows (Ok Status) e = subst AnswerFollows (sym e) (stays device old.source)
  request_follows (Ok Verify) r = read_follows device old.source answer.session.source answer.commands r.commands r.answers.reads_only
  request_follows (Err refusal) e = subst AnswerFollows (sym e) (stays device old.source)

  answer_follows : (request : Result Request Refusal) (Room : Type 0) → AnswerGives device old request Room answer → AnswerFollows answer
  unfolding AnswerFollows
  answer_follows request Room (inl gives) = request_follows request gives
  answer_follows request Room (inr (room, e)) = subst AnswerFollows (sym e) (stays device old.source)

  line_follows : (line : List ℕ) → LineGives device old line answer → AnswerFollows answer
  unfolding AnswerFollows
  line_follows line (inl long) = subst AnswerFollows (sym long.1) (stays device old.source)
  line_follows line (inr (within, gives)) = answer_follows (request_of line) (TakesRoom line) gives

  pub statement_follows : (statement : Statement) → StatementGives device old statement answer → Follows device old.source answer.session.source answer.commands
  unfolding AnswerFollows
  statement_follows (single line) gives = line_follows line gives
  statement_follows (grouped first lines) gives = answer_follows (request_by (grouped first lines)) (GroupTakesRoom lines) gives
  statement_follows cut_off gives = request_follows (request_by cut_off) gives

-- the generation does not fall, if the device did not fail
module _ {D : Type 0} (device : D → DiskState) (old : ScriptState (Stored D)) (answer : Answer (Stored D)) (models : ¬ IsMachine answer.outcome) where
  Rises : Answer (Stored D) → Type 0
  Rises a = old.source.slots.root.generation ≤ a.session.source.slots.root.generation

  alike_rises : (new : Stored D) → new.slots ≡ old.source.slots → old.source.slots.root.generation ≤ new.slots.root.generation
  alike_rises new e = rw e (omega arith)

  run_rises : (command : Command) (result : Result Reply stored.Refusal) → Answers device old.source answer.session.source command old.now result
      → answer.outcome ≡ outcome_of_reply result → Rises answer
  unfolding Rises
  run_rises command (Ok reply) a o = omega (arith, a.generation)
  run_rises command (Err Device) a o = absurd (models (subst IsMachine (sym o) tt))
  run_rises command (Err Closed) a o = absurd (models (subst IsMachine (sym o) tt))
  run_rises command (Err Full) a o = absurd (models (subst IsMachine (sym o) tt))
  run_rises command (Err ReadFault) a o = absurd (a.refused ReadFault refl)
  run_rises command (Err ShortBody) a o = absurd (a.refused ShortBody refl)
  run_rises command (Err Damaged) a o = absurd (models (subst IsMachine (sym o) tt))
  run_rises command (Err NoMemory) a o = absurd (models (subst IsMachine (sym o) tt))
  run_rises command (Err BadGroup) a o = alike_rises answer.session.source (a.unchanged BadGroup refl (λ e. absurd cc)).slots
  run_rises command (Err TooLong) a o = alike_rises answer.session.source (a.unchanged TooLong refl (λ e. absurd cc)).slots
  run_rises command (Err NotHeld) a o = alike_rises answer.session.source (a.unchanged NotHeld refl (λ e. absurd cc)).slots
  run_rises command (Err TooManyResources) a o = alike_rises answer.session.source (a.unchanged TooManyResources refl (λ e. absurd cc)).slots
  run_rises command (Err TooManyChanges) a o = alike_rises answer.session.source (a.unchanged TooManyChanges refl (λ e. absurd cc)).slots
  run_rises command (Err Exhausted) a o = alike_rises answer.session.source (a.unchanged Exhausted refl (λ e. absurd cc)).slots

  request_rises : (request : Result Request Refusal) → AskedGives device old request answer → Rises answer
  unfolding Rises
  request_rises (Ok (At t)) e = subst Rises (sym e) (omega arith)
  request_rises (Ok (Run command)) r = run_rises command r.result r.answers r.outcome
  request_rises (Ok (Document doc)) e = subst Rises (sym e) (omega arith)
  request_rises (Ok (Body name)) r = alike_rises answer.session.source r.answers.reads_only.slots
  request_rises (Ok Status) e = subst Rises (sym e) (omega arith)
  request_rises (Ok Verify) r = alike_rises answer.session.source r.answers.reads_only.slots
  request_rises (Err refusal) e = subst Rises (sym e) (omega arith)

  answer_rises : (request : Result Request Refusal) (Room : Type 0) → AnswerGives device old request Room answer → Rises answer
  unfolding Rises
  answer_rises request Room (inl gives) = request_rises request gives
  answer_rises request Room (inr (room, e)) = subst Rises (sym e) (omega arith)

  line_rises : (line : List ℕ) → LineGives device old line answer → Rises answer
  unfolding Rises
  line_rises line (inl long) = subst Rises (sym long.1) (omega arith)
  line_rises line (inr (within, gives)) = answer_rises (request_of line) (TakesRoom line) gives

  pub statement_rises : (statement : Statement) → StatementGives device old statement answer
      → old.source.slots.root.generation ≤ answer.session.source.slots.root.generation
  unfolding Rises
  statement_rises (single line) gives = line_rises line gives
  statement_rises (grouped first lines) gives = answer_rises (request_by (grouped first lines)) (GroupTakesRoom lines) gives
  statement_rises cut_off gives = request_rises (request_by cut_off) gives

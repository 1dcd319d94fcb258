-- An answer of a stored source that the model decides is the model's.
use Rattle.std.proofs.Common.{◌≡◌, ◌<◌, ◌+◌, ◌-◌, ◌^◌, ℕ, List, [], Option, Some, None, Result, Ok, Err, Vec, Global, length, not, filter, nat_lt, nat_le, Bool, true, false, refl, ap, sym, ◌∙◌, subst, inl, inr, arith, IsTrue, is_some, option_map, if◌then◌else◌}
use Rattle.std.proofs.lemmas.Bool.Decides.{nat_tests}
use Rattle.std.proofs.lemmas.List.{length-map}
use Rattle.std.proofs.lemmas.List.Filters.{length-filter_both}
use Rattle.rs_disk.specs.Medium.{DiskState}
use Rattle.rs_model.specs.Names.{value_of}
use Rattle.rs_model.specs.State.{Source, body_of}
use Rattle.rs_model.specs.Step.{step, refusal_of, accepted_unless, next_state, reply_to, moment_at}
use Rattle.rs_model.specs.declared.command.Command.{Command}
use Rattle.rs_model.specs.declared.command.Reply.{Reply}
use Rattle.rs_model.specs.declared.value.Held.{Held}
use Rattle.rs_model.specs.declared.command.Refusal as model
use Rattle.rs_image.specs.StateOfImage.{state_in}
use Rattle.rs_store.specs.Answered.{Answers}
use Rattle.rs_store.specs.Refusals.{decided, or_spent, named_as}
use Rattle.rs_store.specs.Shows.{status_of}
use Rattle.rs_store.specs.Source.{Stored, state_of}
use Rattle.rs_store.specs.declared.refusal.Refusal as stored
use Rattle.rs_store.specs.declared.refusal.Refusal.TheVariants.{Closed, BadGroup, TooLong, NotHeld, TooManyResources, TooManyChanges, Exhausted, Full, ReadFault, ShortBody, Device, Damaged, NoMemory}
use Rattle.rs_caps.specs.DocumentTexts.{document_text}
use Rattle.rs_caps.specs.Shows.{shown_of}
use Rattle.rs_recovery.specs.Prefixes.{counted_as}
use Rattle.rs_script.specs.declared.refusal.Refusal.{Refusal}
use Rattle.rs_script.specs.declared.refusal.Refusal.TheVariants as refusals
use Rattle.rs_script.specs.declared.request.Request.{Request}
use Rattle.rs_script.specs.declared.request.Request.TheVariants.{At, Run, Document, Body, Status, Verify}
use Rattle.rs_store.specs.AnswersBody.{AnswersBody}
use Rattle.rs_store.specs.OnlyReads.{OnlyReads}
use Rattle.rs_store.specs.Verified.{AnswersVerify, is_sound, damaged_names}
use Rattle.rs_script.specs.Outcomes.{outcome_of_reply, shown_as, verified_as, if_open, AskedGives, AnswerGives, LineGives, StatementGives}
use Rattle.rs_script.specs.Lines.{line_limit}
use Rattle.rs_script.specs.Model.{stepped, shown_or, sound_count, answer_to, line_answer, statement_answer}
use Rattle.rs_script.specs.Requests.{request_of}
use Rattle.rs_script.specs.Room.{TakesRoom, GroupTakesRoom}
use Rattle.rs_script.specs.Statements.{Statement, single, grouped, cut_off, request_by}
use Rattle.rs_script.specs.Script.{IsOfMachine, IsMachine, model_state}
use Rattle.rs_script.specs.Session.{ScriptState, script_state, LineOutcome, refused, counted, verified, Answer, unchanged}

-- an answer of a stored source is this one of the model
pub record IsSame {D : Type 0} (device : D → DiskState) (answer : Answer (Stored D)) (expected : Answer Source) : Type 0 where
  pub outcome : answer.outcome ≡ expected.outcome
  pub commands : answer.commands ≡ expected.commands
  pub session : model_state device answer.session ≡ expected.session

-- a cause that is not the machine's is the model's
model_cause : (closed spent : Bool) (found : Option model.Refusal) (r : stored.Refusal)
    → (if closed then Some Closed else or_spent found spent) ≡ Some r → (r ≡ Closed → ⊥) → spent ≡ false
    → (m : model.Refusal) × (found ≡ Some m) × (named_as m ≡ r)
model_cause true spent found r e other left = let same : r ≡ Closed = cc in absurd (other same)
model_cause false spent (Some m) r e other left = (m, refl, cc)
model_cause false true None r e other left = absurd cc
model_cause false false None r e other left = absurd cc

is_left : (generation : ℕ) → generation + 1 < 2 ^ 64 → nat_le (2 ^ 64) (generation + 1) ≡ false
is_left generation lt = grind (arith, nat_tests)

missing : {X : Type 0} (f : X → List ℕ) (found : Option X) → is_some found ≡ false → option_map f found ≡ None
missing f None e = refl
missing f (Some x) e = absurd cc

-- a body that is not damaged is sound
sound_rest : (s : Source) → length s.held - length (damaged_names s) ≡ sound_count s
sound_rest s =
    let sound = λ (e : List ℕ × Held). is_sound e.1 in
    let damaged = λ (e : List ℕ × Held). not (is_sound e.1) in
    let both = length-filter_both sound damaged (λ e. refl) s.held in
    let same = length-map (filter damaged s.held) (λ (e : List ℕ × Held). e.0) in
    omega (arith, both, same)

module _ {D : Type 0} (device : D → DiskState) (old : ScriptState (Stored D)) (answer : Answer (Stored D)) (models : ¬ IsMachine answer.outcome) where
  abbrev state : Source
  state = state_of device old.source

  -- the machine refused
  machine_refused : {P : Type 0} (r : stored.Refusal) → IsOfMachine r → answer.outcome ≡ refused (refusals.Source r) → P
  machine_refused r is e = absurd (models (subst IsMachine (sym e) is))

  -- the model refused the command
  run_refused : (command : Command) (r : stored.Refusal) → (r ≡ Closed → ⊥) → old.source.slots.root.generation + 1 < 2 ^ 64
      → decided old.source state command old.now ≡ Some r
      → answer.outcome ≡ refused (refusals.Source r) → answer.commands ≡ [] → answer.session.now ≡ old.now
      → state_of device answer.session.source ≡ state
      → IsSame device answer (stepped (model_state device old) command (step state command old.now))
  run_refused command r other left cause o c n same =
      let m = model_cause old.source.is_closed (nat_le (2 ^ 64) (old.source.slots.root.generation + 1)) (refusal_of state command old.now) r cause other
      (is_left old.source.slots.root.generation left) in
      let t = moment_at state old.now in
      let steps : step state command old.now ≡ Err m.0 = ap (λ found. accepted_unless found (next_state state command t, reply_to state command t)) m.1 in
      rw steps record {
        outcome = o ∙ ap (λ x. refused (refusals.Source x)) (sym m.2);
        commands = c;
        session = ap (λ s. script_state s answer.session.now) same ∙ ap (script_state state) n;
      }

  -- the source gets a command
  run_same : (command : Command) (result : Result Reply stored.Refusal) → Answers device old.source answer.session.source command old.now result
      → old.source.slots.root.generation + 1 < 2 ^ 64
      → answer.outcome ≡ outcome_of_reply result → answer.commands ≡ counted_as command old.now result → answer.session.now ≡ old.now
      → IsSame device answer (stepped (model_state device old) command (step state command old.now))
  run_same command (Ok reply) a left o c n =
      rw a.accepted record {
        outcome = o;
        commands = c;
        session = ap (script_state (state_of device answer.session.source)) n;
      }
  run_same command (Err Closed) a left o c n = machine_refused Closed tt o
  run_same command (Err Full) a left o c n = machine_refused Full tt o
  run_same command (Err Device) a left o c n = machine_refused Device tt o
  run_same command (Err Damaged) a left o c n = machine_refused Damaged tt o
  run_same command (Err ReadFault) a left o c n = absurd (a.refused ReadFault refl)
  run_same command (Err ShortBody) a left o c n = absurd (a.refused ShortBody refl)
  run_same command (Err NoMemory) a left o c n = machine_refused NoMemory tt o
  run_same command (Err BadGroup) a left o c n =
      run_refused command BadGroup (λ e. absurd cc) left (a.refused BadGroup refl) o c n (a.unchanged BadGroup refl (λ e. absurd cc)).state
  run_same command (Err TooLong) a left o c n =
      run_refused command TooLong (λ e. absurd cc) left (a.refused TooLong refl) o c n (a.unchanged TooLong refl (λ e. absurd cc)).state
  run_same command (Err NotHeld) a left o c n =
      run_refused command NotHeld (λ e. absurd cc) left (a.refused NotHeld refl) o c n (a.unchanged NotHeld refl (λ e. absurd cc)).state
  run_same command (Err TooManyResources) a left o c n =
      run_refused command TooManyResources (λ e. absurd cc) left (a.refused TooManyResources refl) o c n (a.unchanged TooManyResources refl (λ e. absurd cc)).state
  run_same command (Err TooManyChanges) a left o c n =
      run_refused command TooManyChanges (λ e. absurd cc) left (a.refused TooManyChanges refl) o c n (a.unchanged TooManyChanges refl (λ e. absurd cc)).state
  run_same command (Err Exhausted) a left o c n =
      run_refused command Exhausted (λ e. absurd cc) left (a.refused Exhausted refl) o c n (a.unchanged Exhausted refl (λ e. absurd cc)).state

  -- the state of the script is the same after a read
  read_session : OnlyReads device old.source answer.session.source → answer.session.now ≡ old.now → model_state device answer.session ≡ model_state device old
  read_session a n =
      ap (λ held. script_state (state_in held.seen answer.session.source.contents) answer.session.now) a.rests.now
      ∙ ap (λ c. script_state (state_in (device old.source.disk).now.seen c) answer.session.now) a.contents
      ∙ ap (script_state state) n

  -- the source is asked for a body
  read_same : (name : List ℕ) (result : Result (Vec ℕ Global) stored.Refusal) → AnswersBody device old.source answer.session.source name result
      → IsTrue (device answer.session.source.disk).honest
      → answer.outcome ≡ shown_as result → answer.commands ≡ [] → answer.session.now ≡ old.now
      → IsSame device answer (unchanged (model_state device old) (shown_or (refusals.Source NotHeld) (body_of name state)))
  read_same name (Ok bytes) a honest o c n =
      rw (a.reads honest) record { outcome = o; commands = c; session = read_session a.reads_only n }
  read_same name (Err NotHeld) a honest o c n =
      rw (missing (λ (h : Held). h.bytes) (value_of name state.held) (a.not_held.0 refl).1) record { outcome = o; commands = c; session = read_session a.reads_only n }
  read_same name (Err Closed) a honest o c n = machine_refused Closed tt o
  read_same name (Err Full) a honest o c n = machine_refused Full tt o
  read_same name (Err Device) a honest o c n = machine_refused Device tt o
  read_same name (Err Damaged) a honest o c n = machine_refused Damaged tt o
  read_same name (Err NoMemory) a honest o c n = machine_refused NoMemory tt o
  read_same name (Err BadGroup) a honest o c n = absurd a.others
  read_same name (Err TooLong) a honest o c n = absurd a.others
  read_same name (Err ReadFault) a honest o c n = absurd a.others
  read_same name (Err ShortBody) a honest o c n = absurd a.others
  read_same name (Err TooManyResources) a honest o c n = absurd a.others
  read_same name (Err TooManyChanges) a honest o c n = absurd a.others
  read_same name (Err Exhausted) a honest o c n = absurd a.others

  -- the source is asked for the damaged bodies
  verify_same : (result : Result (Vec (List ℕ) Global) stored.Refusal) → AnswersVerify device old.source answer.session.source result
      → IsTrue (device answer.session.source.disk).honest
      → answer.outcome ≡ verified_as (length state.held) result → answer.commands ≡ [] → answer.session.now ≡ old.now
      → IsSame device answer (unchanged (model_state device old) (verified (damaged_names state) (sound_count state)))
  verify_same (Ok names) a honest o c n = record {
    outcome = o ∙ ap (λ found. verified found (length state.held - length found)) (a.names honest) ∙ ap (verified (damaged_names state)) (sound_rest state);
    commands = c;
    session = read_session a.reads_only n;
  }
  verify_same (Err Closed) a honest o c n = machine_refused Closed tt o
  verify_same (Err Device) a honest o c n = machine_refused Device tt o
  verify_same (Err NoMemory) a honest o c n = machine_refused NoMemory tt o
  verify_same (Err NotHeld) a honest o c n = absurd a.others
  verify_same (Err Full) a honest o c n = absurd a.others
  verify_same (Err Damaged) a honest o c n = absurd a.others
  verify_same (Err BadGroup) a honest o c n = absurd a.others
  verify_same (Err TooLong) a honest o c n = absurd a.others
  verify_same (Err ReadFault) a honest o c n = absurd a.others
  verify_same (Err ShortBody) a honest o c n = absurd a.others
  verify_same (Err TooManyResources) a honest o c n = absurd a.others
  verify_same (Err TooManyChanges) a honest o c n = absurd a.others
  verify_same (Err Exhausted) a honest o c n = absurd a.others

  -- the source was open, if its answer is the model's
  open_same : (outcome : LineOutcome) (closed : Bool) → old.source.is_closed ≡ closed → answer ≡ unchanged old (if_open old outcome)
      → answer ≡ unchanged old outcome
  open_same outcome true is e = machine_refused Closed tt (ap (λ (a : Answer (Stored D)). a.outcome) e ∙ ap (λ b. if b then refused (refusals.Source Closed) else outcome) is)
  open_same outcome false is e = e ∙ ap (λ b. unchanged old (if b then refused (refusals.Source Closed) else outcome)) is

  -- the state stays the same, and this is the outcome
  left_same : (outcome : LineOutcome) → answer ≡ unchanged old outcome → IsSame device answer (unchanged (model_state device old) outcome)
  left_same outcome e = record {
    outcome = ap (λ (a : Answer (Stored D)). a.outcome) e;
    commands = ap (λ (a : Answer (Stored D)). a.commands) e;
    session = ap (λ (a : Answer (Stored D)). model_state device a.session) e;
  }

  -- a request is answered as the model answers it
  request_same : (request : Result Request Refusal) → AskedGives device old request answer
      → IsTrue (device answer.session.source.disk).honest → old.source.slots.root.generation + 1 < 2 ^ 64
      → IsSame device answer (answer_to (model_state device old) request)
  request_same (Ok (At t)) e honest left = record {
    outcome = ap (λ (a : Answer (Stored D)). a.outcome) e;
    commands = ap (λ (a : Answer (Stored D)). a.commands) e;
    session = ap (λ (a : Answer (Stored D)). model_state device a.session) e;
  }
  request_same (Ok (Run command)) r honest left = run_same command r.result r.answers left r.outcome r.commands r.now
  request_same (Ok (Document doc)) e honest left =
      let outcome = shown_or refusals.NoSuchDocument (document_text (shown_of state) doc) in
      left_same outcome (open_same outcome old.source.is_closed refl e)
  request_same (Ok (Body name)) r honest left = read_same name r.result r.answers honest r.outcome r.commands r.now
  request_same (Ok Status) e honest left =
      let outcome = counted (status_of state) in
      left_same outcome (open_same outcome old.source.is_closed refl e)
  request_same (Ok Verify) r honest left = verify_same r.result r.answers honest r.outcome r.commands r.now
  request_same (Err refusal) e honest left = left_same (refused refusal) e

  -- and so is a request for which there may be no memory
  possible_same : (request : Result Request Refusal) (Room : Type 0) → AnswerGives device old request Room answer
      → IsTrue (device answer.session.source.disk).honest → old.source.slots.root.generation + 1 < 2 ^ 64
      → IsSame device answer (answer_to (model_state device old) request)
  possible_same request Room (inl gives) honest left = request_same request gives honest left
  possible_same request Room (inr (room, e)) honest left = absurd (models (subst (λ (a : Answer (Stored D)). IsMachine a.outcome) (sym e) tt))

  line_same : (line : List ℕ) → LineGives device old line answer
      → IsTrue (device answer.session.source.disk).honest → old.source.slots.root.generation + 1 < 2 ^ 64
      → IsSame device answer (line_answer (model_state device old) line)
  line_same line (inl long) honest left =
      let past : nat_lt line_limit (length line) ≡ true = grind (arith, nat_tests, long.0) in
      rw past (left_same (refused refusals.LongLine) long.1)
  line_same line (inr (within, gives)) honest left =
      let short : nat_lt line_limit (length line) ≡ false = grind (arith, nat_tests, within) in
      rw short (possible_same (request_of line) (TakesRoom line) gives honest left)

  -- and so is a statement
  pub statement_same : (statement : Statement) → StatementGives device old statement answer
      → IsTrue (device answer.session.source.disk).honest → old.source.slots.root.generation + 1 < 2 ^ 64
      → IsSame device answer (statement_answer (model_state device old) statement)
  statement_same (single line) gives honest left = line_same line gives honest left
  statement_same (grouped first lines) gives honest left = possible_same (request_by (grouped first lines)) (GroupTakesRoom lines) gives honest left
  statement_same cut_off gives honest left = request_same (request_by cut_off) gives honest left

-- The statements of a script make a walk.
use Rattle.std.proofs.Common.{◌≡◌, inl, inr, ℕ, Bool, true, List, [], ◌∷◌, refl, sym, ◌∙◌, ap, subst, cond, Option, Some, None, Result, Ok, Err, Vec, Global, IsTrue}
use Rattle.rs_disk.specs.Medium.{DiskState, IsMedium}
use Rattle.rs_model.specs.State.{Source, body_of}
use Rattle.rs_model.specs.Walk.{walk_of}
use Rattle.rs_model.specs.declared.command.Command.{Command}
use Rattle.rs_model.specs.declared.command.Reply.{Reply}
use Rattle.rs_model.specs.declared.event.Event.{Event}
use Rattle.rs_model.specs.declared.event.Event.TheVariants.{Refused, Fetch}
use Rattle.rs_lists.specs.declared.doc.Doc.{Doc}
use Rattle.rs_caps.specs.Answer.{answer}
use Rattle.rs_caps.specs.DocumentTexts.{document_text}
use Rattle.rs_caps.specs.PathAnswers.{body_path, DocumentsAreAnswered, BodiesAreAnswered}
use Rattle.rs_caps.specs.Paths.{path_of, HasCounts}
use Rattle.rs_caps.specs.Shows.{shown_of}
use Rattle.rs_store.specs.AnswersBody.{AnswersBody}
use Rattle.rs_store.specs.Laws.{HeldStands}
use Rattle.rs_store.specs.OnlyReads.{OnlyReads}
use Rattle.rs_store.specs.Source.{Stored, Holds, state_of}
use Rattle.rs_store.specs.declared.refusal.Refusal as stored
use Rattle.rs_store.specs.declared.refusal.Refusal.TheVariants.{Closed}
use Rattle.rs_recovery.specs.Turns.{ReadingsIdle}
use Rattle.rs_recovery.specs.Walked.{CommandEvents, LeavesWalk, CommandsMakeWalks, ClosedCommandsAreRefused}
use Rattle.rs_script.proofs.FromBelow.{told, walked}
use Rattle.rs_script.specs.declared.refusal.Refusal.{Refusal}
use Rattle.rs_items.specs.declared.item.ItemFault.TheVariants as fault
use Rattle.rs_script.specs.declared.refusal.Refusal.TheVariants as refusals
use Rattle.rs_script.specs.declared.request.Request.{Request}
use Rattle.rs_script.specs.declared.request.Request.TheVariants.{At, Run, Document, Body, Status, Verify}
use Rattle.rs_script.specs.Model.{shown_or}
use Rattle.rs_script.specs.Outcomes.{RunAnswers, ReadAnswers, outcome_of_reply, shown_as, if_open, AskedGives, AnswerGives, LineGives, StatementGives}
use Rattle.rs_script.specs.Requests.{request_of}
use Rattle.rs_script.specs.Room.{TakesRoom, GroupTakesRoom}
use Rattle.rs_script.specs.Statements.{Statement, single, grouped, cut_off, request_by}
use Rattle.rs_script.specs.Session.{ScriptState, LineOutcome, shown, refused, Answer, unchanged}
use Rattle.rs_script.specs.Walked.{RunStatementEvents, FetchEvents, StatementEvents, now_after}
use Rattle.rs_script.proofs.NamedDocuments.{HasPath}

abbrev Kind : Type 1
Kind = List Event → Type 0

-- the outcome of a request that was refused memory, and of a line past the limit
no_room : (s : Source) (now : ℕ) (request : Result Request Refusal)
    → (events : List Event) × StatementEvents s now request (refused (refusals.Line fault.NoMemory)) events × (walk_of s events ≡ s)
no_room s now (Ok (At t)) = ([], refl, refl)
no_room s now (Ok (Run command)) = (Refused command ∷ [], refl, refl)
no_room s now (Ok (Document doc)) = ([], refl, refl)
no_room s now (Ok (Body name)) = ([], refl, refl)
no_room s now (Ok Status) = ([], refl, refl)
no_room s now (Ok Verify) = ([], refl, refl)
no_room s now (Err refusal) = ([], refl, refl)

too_long : (s : Source) (now : ℕ) (request : Result Request Refusal) → StatementEvents s now request (refused refusals.LongLine) []
too_long s now (Ok (At t)) = refl
too_long s now (Ok (Run command)) = refl
too_long s now (Ok (Document doc)) = refl
too_long s now (Ok (Body name)) = refl
too_long s now (Ok Status) = refl
too_long s now (Ok Verify) = refl
too_long s now (Err refusal) = refl

-- a refusal sets no moment
unset : (now : ℕ) (request : Result Request Refusal) (refusal : Refusal) → now ≡ now_after now request (refused refusal)
unset now (Ok (At t)) refusal = refl
unset now (Ok (Run command)) refusal = refl
unset now (Ok (Document doc)) refusal = refl
unset now (Ok (Body name)) refusal = refl
unset now (Ok Status) refusal = refl
unset now (Ok Verify) refusal = refl
unset now (Err denied) refusal = refl

module _ {D : Type 0} (device : D → DiskState) where
  -- the moment after a line
  SetsNow : ScriptState (Stored D) → Result Request Refusal → Answer (Stored D) → Type 0
  SetsNow old request answer = answer.session.now ≡ now_after old.now request answer.outcome

  request_now : (old : ScriptState (Stored D)) (request : Result Request Refusal) (answer : Answer (Stored D))
      → AskedGives device old request answer → SetsNow old request answer
  unfolding SetsNow
  request_now old (Ok (At t)) answer e = subst (SetsNow old (Ok (At t))) (sym e) refl
  request_now old (Ok (Run command)) answer r = r.now
  request_now old (Ok (Document doc)) answer e = subst (SetsNow old (Ok (Document doc))) (sym e) refl
  request_now old (Ok (Body name)) answer r = r.now
  request_now old (Ok Status) answer e = subst (SetsNow old (Ok Status)) (sym e) refl
  request_now old (Ok Verify) answer r = r.now
  request_now old (Err refusal) answer e = subst (SetsNow old (Err refusal)) (sym e) refl

  answer_now : (old : ScriptState (Stored D)) (request : Result Request Refusal) (Room : Type 0) (answer : Answer (Stored D)) → AnswerGives device old request Room answer
      → SetsNow old request answer
  unfolding SetsNow
  answer_now old request Room answer (inl gives) = request_now old request answer gives
  answer_now old request Room answer (inr (room, e)) = subst (SetsNow old request) (sym e) (unset old.now request (refusals.Line fault.NoMemory))

  line_now : (old : ScriptState (Stored D)) (line : List ℕ) (answer : Answer (Stored D)) → LineGives device old line answer
      → SetsNow old (request_of line) answer
  unfolding SetsNow
  line_now old line answer (inl long) = subst (SetsNow old (request_of line)) (sym long.1) (unset old.now (request_of line) refusals.LongLine)
  line_now old line answer (inr (within, gives)) = answer_now old (request_of line) (TakesRoom line) answer gives

  pub statement_now : (old : ScriptState (Stored D)) (statement : Statement) (answer : Answer (Stored D)) → StatementGives device old statement answer
      → answer.session.now ≡ now_after old.now (request_by statement) answer.outcome
  unfolding SetsNow
  statement_now old (single line) answer gives = line_now old line answer gives
  statement_now old (grouped first lines) answer gives = answer_now old (request_by (grouped first lines)) (GroupTakesRoom lines) answer gives
  statement_now old cut_off answer gives = request_now old (request_by cut_off) answer gives

-- a line to an open source
module _ {D : Type 0} (device : D → DiskState) (sound : (disk : D) → IsMedium (device disk).size (device disk).now) (stands : HeldStands device)
    (reading : ReadingsIdle device) (commands : CommandsMakeWalks device) (documents : DocumentsAreAnswered) (bodies : BodiesAreAnswered)
    (old : ScriptState (Stored D)) (s : Source) (holds : Holds device old.source s) where
  -- the walk of the outcome of a request
  Walk : Result Request Refusal → Answer (Stored D) → Type 0
  Walk request answer = LeavesWalk device s (StatementEvents s old.now request answer.outcome) answer.session.source

  -- no event
  nothing : (M : Kind) (new : Stored D) → M [] → Holds device new s → LeavesWalk device s M new
  nothing M new none held = walked device stands s M new [] none held

  of_reply : (command : Command) (result : Result Reply stored.Refusal) (new : Stored D) → LeavesWalk device s (CommandEvents s command old.now result) new
      → LeavesWalk device s (RunStatementEvents s command old.now (outcome_of_reply result)) new
  of_reply command (Ok reply) new walk = walk
  of_reply command (Err refusal) new walk = walk

  run_walk : (command : Command) (answer : Answer (Stored D)) → RunAnswers device old command answer → Walk (Ok (Run command)) answer
  unfolding Walk
  run_walk command answer r =
      let P : LineOutcome → Type 0 = λ outcome. LeavesWalk device s (RunStatementEvents s command old.now outcome) answer.session.source in
      subst P (sym r.outcome) (of_reply command r.result answer.session.source
      (commands old.source answer.session.source s command old.now r.result holds r.answers))

  shown_walk : (path : List ℕ) (refusal : Refusal) (found : Option (List ℕ)) (new : Stored D) → answer s path ≡ found → Holds device new s
      → LeavesWalk device s (FetchEvents s path (shown_or refusal found)) new
  shown_walk path refusal None new is held = nothing (FetchEvents s path (refused refusal)) new refl held
  shown_walk path refusal (Some bytes) new is held =
      walked device stands s (FetchEvents s path (shown bytes)) new (Fetch ∷ []) (is, refl) held

  -- an open source shows the state that it holds
  open_shows : (doc : Doc) → if_open old (shown_or refusals.NoSuchDocument (document_text (shown_of (state_of device old.source)) doc))
      ≡ shown_or refusals.NoSuchDocument (document_text (shown_of s) doc)
  open_shows doc =
      let outcome : Source → LineOutcome = λ t. shown_or refusals.NoSuchDocument (document_text (shown_of t) doc) in
      ap (λ (b : Bool). cond b (refused (refusals.Source Closed)) (outcome (state_of device old.source))) holds.is_open
      ∙ ap outcome (told device sound old.source s holds)

  document_walk : (doc : Doc) → HasCounts doc → (answer : Answer (Stored D)) → AskedGives device old (Ok (Document doc)) answer → Walk (Ok (Document doc)) answer
  unfolding Walk
  document_walk doc counts answer e =
      let is : answer ≡ unchanged old (shown_or refusals.NoSuchDocument (document_text (shown_of s) doc)) = e ∙ ap (unchanged old) (open_shows doc) in
      subst (Walk (Ok (Document doc))) (sym is)
      (shown_walk (path_of doc) refusals.NoSuchDocument (document_text (shown_of s) doc) old.source (documents s doc counts) holds)

  kept : (new : Stored D) → OnlyReads device old.source new → Holds device new s
  kept new reads = ((reading old.source new reads).holds s holds).0

  body_walk : (name : List ℕ) (result : Result (Vec ℕ Global) stored.Refusal) (new : Stored D) → AnswersBody device old.source new name result
      → IsTrue (device new.disk).honest → LeavesWalk device s (FetchEvents s (body_path name) (shown_as result)) new
  body_walk name (Ok bytes) new a honest =
      let here : body_of name s ≡ Some bytes.items = ap (body_of name) (sym (told device sound old.source s holds)) ∙ a.reads honest in
      walked device stands s (FetchEvents s (body_path name) (shown bytes.items)) new (Fetch ∷ []) (bodies s name ∙ here, refl) (kept new a.reads_only)
  body_walk name (Err refusal) new a honest =
      nothing (FetchEvents s (body_path name) (refused (refusals.Source refusal))) new refl (kept new a.reads_only)

  read_walk : (name : List ℕ) (answer : Answer (Stored D)) → ReadAnswers device old name answer → IsTrue (device answer.session.source.disk).honest
      → Walk (Ok (Body name)) answer
  unfolding Walk
  read_walk name answer r honest =
      let P : LineOutcome → Type 0 = λ outcome. LeavesWalk device s (FetchEvents s (body_path name) outcome) answer.session.source in
      subst P (sym r.outcome) (body_walk name r.result answer.session.source r.answers honest)

  -- the source did not change, and this is no event
  still : (request : Result Request Refusal) (answer given : Answer (Stored D)) → answer ≡ given
      → StatementEvents s old.now request given.outcome [] → Holds device given.session.source s → Walk request answer
  unfolding Walk
  still request answer given e none held =
      subst (Walk request) (sym e) (nothing (StatementEvents s old.now request given.outcome) given.session.source none held)

  request_walk : (request : Result Request Refusal) → HasPath request → (answer : Answer (Stored D)) → AskedGives device old request answer
      → IsTrue (device answer.session.source.disk).honest → Walk request answer
  unfolding Walk
  request_walk (Ok (At t)) has answer e honest = still (Ok (At t)) answer _ e refl holds
  request_walk (Ok (Run command)) has answer r honest = run_walk command answer r
  request_walk (Ok (Document doc)) has answer e honest = document_walk doc has answer e
  request_walk (Ok (Body name)) has answer r honest = read_walk name answer r honest
  request_walk (Ok Status) has answer e honest = still (Ok Status) answer _ e refl holds
  request_walk (Ok Verify) has answer r honest =
      nothing (StatementEvents s old.now (Ok Verify) answer.outcome) answer.session.source refl (kept answer.session.source r.answers.reads_only)
  request_walk (Err refusal) has answer e honest = still (Err refusal) answer _ e refl holds

  answer_walk : (request : Result Request Refusal) (Room : Type 0) → HasPath request → (answer : Answer (Stored D)) → AnswerGives device old request Room answer
      → IsTrue (device answer.session.source.disk).honest → Walk request answer
  unfolding Walk
  answer_walk request Room has answer (inl gives) honest = request_walk request has answer gives honest
  answer_walk request Room has answer (inr (room, e)) honest =
      let none = no_room s old.now request in
      subst (Walk request) (sym e)
      (walked device stands s (StatementEvents s old.now request (refused (refusals.Line fault.NoMemory))) old.source none.0 none.1
      (subst (Holds device old.source) (sym none.2) holds))

  line_walk : (line : List ℕ) → HasPath (request_of line) → (answer : Answer (Stored D)) → LineGives device old line answer
      → IsTrue (device answer.session.source.disk).honest → Walk (request_of line) answer
  unfolding Walk
  line_walk line has answer (inl long) honest =
      still (request_of line) answer (unchanged old (refused refusals.LongLine)) long.1 (too_long s old.now (request_of line)) holds
  line_walk line has answer (inr (within, gives)) honest = answer_walk (request_of line) (TakesRoom line) has answer gives honest

  pub statement_walk : (statement : Statement) → HasPath (request_by statement) → (answer : Answer (Stored D)) → StatementGives device old statement answer
      → IsTrue (device answer.session.source.disk).honest
      → LeavesWalk device s (StatementEvents s old.now (request_by statement) answer.outcome) answer.session.source
  unfolding Walk
  statement_walk (single line) has answer gives honest = line_walk line has answer gives honest
  statement_walk (grouped first lines) has answer gives honest = answer_walk (request_by (grouped first lines)) (GroupTakesRoom lines) has answer gives honest
  statement_walk cut_off has answer gives honest = request_walk (request_by cut_off) has answer gives honest

-- A line to a closed source: the source stays closed, the content of its disk stays, and the state of the walk stays.
pub record Shut {D : Type 0} (device : D → DiskState) (old new : Stored D) (s : Source) (M : Kind) : Type 0 where
  pub events : List Event
  pub are : M events
  pub same : walk_of s events ≡ s
  pub closed : new.is_closed ≡ true
  pub held : (device new.disk).now ≡ (device old.disk).now

module _ {D : Type 0} (device : D → DiskState) (refusing : ClosedCommandsAreRefused device)
    (old : ScriptState (Stored D)) (s : Source) (closed : old.source.is_closed ≡ true) where
  ShutBy : Result Request Refusal → Answer (Stored D) → Type 0
  ShutBy request answer = Shut device old.source answer.session.source s (StatementEvents s old.now request answer.outcome)

  -- the source did not change
  unmoved : (request : Result Request Refusal) (answer given : Answer (Stored D)) → answer ≡ given → given.session.source ≡ old.source
      → (events : List Event) → StatementEvents s old.now request given.outcome events → walk_of s events ≡ s → ShutBy request answer
  unfolding ShutBy
  unmoved request answer given e same events are stays = subst (ShutBy request) (sym e) record {
    events = events;
    are = are;
    same = stays;
    closed = ap (λ (x : Stored D). x.is_closed) same ∙ closed;
    held = ap (λ (x : Stored D). (device x.disk).now) same;
  }

  read_shut : (M : Kind) (new : Stored D) → OnlyReads device old.source new → M [] → Shut device old.source new s M
  read_shut M new reads none = record {
    events = [];
    are = none;
    same = refl;
    closed = reads.is_closed ∙ closed;
    held = reads.rests.now;
  }

  run_shut : (command : Command) (answer : Answer (Stored D)) → RunAnswers device old command answer → ShutBy (Ok (Run command)) answer
  unfolding ShutBy
  run_shut command answer r =
      let no = refusing old.source answer.session.source s command old.now r.result closed r.answers in
      let outcome : answer.outcome ≡ refused (refusals.Source Closed) = r.outcome ∙ ap outcome_of_reply no.0 in
      let here : CommandEvents s command old.now (Err Closed) (Refused command ∷ []) =
      subst (λ (result : Result Reply stored.Refusal). CommandEvents s command old.now result (Refused command ∷ [])) no.0 no.2 in
      let P : LineOutcome → Type 0 = λ o. RunStatementEvents s command old.now o (Refused command ∷ []) in
      record {
        events = Refused command ∷ [];
        are = subst P (sym outcome) here;
        same = refl;
        closed = ap (λ (x : Stored D). x.is_closed) no.1 ∙ closed;
        held = ap (λ (x : Stored D). (device x.disk).now) no.1;
      }

  -- a closed source shows no body
  no_body : (name : List ℕ) (result : Result (Vec ℕ Global) stored.Refusal) (new : Stored D) → AnswersBody device old.source new name result
      → FetchEvents s (body_path name) (shown_as result) []
  no_body name (Ok bytes) new a = let never = a.closed.1 closed in absurd cc
  no_body name (Err refusal) new a = refl

  read_none : (name : List ℕ) (answer : Answer (Stored D)) → ReadAnswers device old name answer → ShutBy (Ok (Body name)) answer
  unfolding ShutBy
  read_none name answer r =
      let P : LineOutcome → Type 0 = λ o. FetchEvents s (body_path name) o [] in
      read_shut (FetchEvents s (body_path name) answer.outcome) answer.session.source r.answers.reads_only
      (subst P (sym r.outcome) (no_body name r.result answer.session.source r.answers))

  request_shut : (request : Result Request Refusal) (answer : Answer (Stored D)) → AskedGives device old request answer → ShutBy request answer
  unfolding ShutBy
  request_shut (Ok (At t)) answer e = unmoved (Ok (At t)) answer _ e refl [] refl refl
  request_shut (Ok (Run command)) answer r = run_shut command answer r
  request_shut (Ok (Document doc)) answer e =
      let outcome = shown_or refusals.NoSuchDocument (document_text (shown_of (state_of device old.source)) doc) in
      let is : answer ≡ unchanged old (refused (refusals.Source Closed)) =
      e ∙ ap (λ (b : Bool). unchanged old (cond b (refused (refusals.Source Closed)) outcome)) closed in
      unmoved (Ok (Document doc)) answer (unchanged old (refused (refusals.Source Closed))) is refl [] refl refl
  request_shut (Ok (Body name)) answer r = read_none name answer r
  request_shut (Ok Status) answer e = unmoved (Ok Status) answer _ e refl [] refl refl
  request_shut (Ok Verify) answer r = read_shut (StatementEvents s old.now (Ok Verify) answer.outcome) answer.session.source r.answers.reads_only refl
  request_shut (Err refusal) answer e = unmoved (Err refusal) answer _ e refl [] refl refl

  answer_shut : (request : Result Request Refusal) (Room : Type 0) (answer : Answer (Stored D)) → AnswerGives device old request Room answer → ShutBy request answer
  unfolding ShutBy
  answer_shut request Room answer (inl gives) = request_shut request answer gives
  answer_shut request Room answer (inr (room, e)) =
      let none = no_room s old.now request in
      unmoved request answer (unchanged old (refused (refusals.Line fault.NoMemory))) e refl none.0 none.1 none.2

  line_shut : (line : List ℕ) (answer : Answer (Stored D)) → LineGives device old line answer → ShutBy (request_of line) answer
  unfolding ShutBy
  line_shut line answer (inl long) =
      unmoved (request_of line) answer (unchanged old (refused refusals.LongLine)) long.1 refl [] (too_long s old.now (request_of line)) refl
  line_shut line answer (inr (within, gives)) = answer_shut (request_of line) (TakesRoom line) answer gives

  pub statement_shut : (statement : Statement) (answer : Answer (Stored D)) → StatementGives device old statement answer
      → Shut device old.source answer.session.source s (StatementEvents s old.now (request_by statement) answer.outcome)
  unfolding ShutBy
  statement_shut (single line) answer gives = line_shut line answer gives
  statement_shut (grouped first lines) answer gives = answer_shut (request_by (grouped first lines)) (GroupTakesRoom lines) answer gives
  statement_shut cut_off answer gives = request_shut (request_by cut_off) answer gives

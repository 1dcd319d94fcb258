-- The answer to every kind of request.
use Rattle.std.proofs.Common.{◌≡◌, ℕ, List, [], Result, Ok, Err, Vec, Global, Bool, true, false, ◌⊎◌, ◌<◌, ◌≤◌, length, refl, inl, inr, ap, sym, subst, ◌∙◌, ◌-◌, if◌then◌else◌, ◌↔◌, arith, IsErrOf, IsTrue, codes, decimal, ◌++◌, ◌∷◌}
use Rattle.rs_disk.specs.Medium.{DiskState}
use Rattle.rs_script.proofs.FromBelow.{reading_none, rests}
use Rattle.rs_model.specs.declared.command.Command.{Command}
use Rattle.rs_model.specs.declared.command.Reply.{Reply}
use Rattle.rs_lists.specs.declared.doc.Doc.{Doc}
use Rattle.rs_lists.specs.Shown.{Shown}
use Rattle.rs_caps.specs.DocumentTexts.{document_text}
use Rattle.rs_caps.specs.Shows.{shown_of}
use Rattle.rs_store.specs.Answered as stored
use Rattle.rs_store.specs.Shows.{status_of}
use Rattle.rs_store.specs.Source.{Stored, state_of}
use Rattle.rs_store.specs.Views as views
use Rattle.rs_store.specs.declared.reading.Status as counts
use Rattle.rs_store.specs.declared.refusal.Refusal as denials
use Rattle.rs_store.specs.declared.refusal.Refusal.TheVariants.{Closed}
use Rattle.rs_recovery.specs.Prefixes.{counted_as}
use Rattle.rs_recovery.specs.Documents.{DocumentsAreOfTheState}
use Rattle.rs_script.specs.declared.refusal.Refusal.{Refusal}
use Rattle.rs_script.specs.declared.refusal.Refusal.TheVariants.{LongLine, NoSuchDocument, Source, Line}
use Rattle.rs_items.specs.declared.item.ItemFault.TheVariants as fault
use Rattle.rs_script.specs.declared.request.Request.{Request}
use Rattle.rs_script.specs.declared.request.Request.TheVariants.{At, Run, Document, Body, Status, Verify}
use Rattle.rs_script.specs.Answers.{outcome_text, shown_text, verified_text}
use Rattle.rs_store.specs.AnswersBody.{AnswersBody}
use Rattle.rs_store.specs.Verified.{AnswersVerify}
use Rattle.rs_script.specs.Outcomes.{outcome_of_reply, shown_as, verified_as, AskedGives, AnswerGives, LineGives}
use Rattle.rs_script.specs.Lines.{line_limit}
use Rattle.rs_script.specs.Model.{shown_or}
use Rattle.rs_script.specs.Progress.{HasAnswer}
use Rattle.rs_script.specs.Requests.{request_of}
use Rattle.rs_script.specs.Room.{TakesRoom}
use Rattle.rs_script.specs.Session.{ScriptState, script_state, LineOutcome, moment_set, counted, refused, Answer, unchanged}

-- this is the answer, and the session after it is its own
abbrev was : {S : Type 0} {Gives : Answer S → Type 0} {P : List ℕ → Type 0} (answer : Answer S) → Gives answer → P (outcome_text answer.outcome) → HasAnswer Gives answer.session P
was answer gives w = record { answer = answer; gives = gives; session_is = refl; written = w }

-- the source got a command
pub ran : {D : Type 0} (device : D → DiskState) (old new : Stored D) (command : Command) (now : ℕ) (result : Result Reply denials.Refusal) (P : List ℕ → Type 0)
    → stored.Answers device old new command now result → P (outcome_text (outcome_of_reply result))
    → HasAnswer (AskedGives device (script_state old now) (Ok (Run command))) (script_state new now) P
ran device old new command now result P a w =
    was (record { outcome = outcome_of_reply result; commands = counted_as command now result; session = script_state new now }) (record { result = result; answers = a; outcome = refl; commands = refl; now = refl }) w

-- the source was asked for a body
pub was_read : {D : Type 0} (device : D → DiskState) (old new : Stored D) (name : List ℕ) (now : ℕ) (result : Result (Vec ℕ Global) denials.Refusal) (P : List ℕ → Type 0)
    → AnswersBody device old new name result → P (outcome_text (shown_as result))
    → HasAnswer (AskedGives device (script_state old now) (Ok (Body name))) (script_state new now) P
was_read device old new name now result P a w =
    was (record { outcome = shown_as result; commands = []; session = script_state new now }) (record { result = result; answers = a; outcome = refl; commands = refl; now = refl }) w

-- the moment is set
pub moment_answered : {D : Type 0} (device : D → DiskState) (s : Stored D) (now t : ℕ) (P : List ℕ → Type 0)
    → P (outcome_text moment_set) → HasAnswer (AskedGives device (script_state s now) (Ok (At t))) (script_state s t) P
moment_answered device s now t P w = was (record { outcome = moment_set; commands = []; session = script_state s t }) refl w

-- an open source answers
when_open : (closed : Bool) (outcome : LineOutcome) → closed ≡ false → (if closed then refused (Source Closed) else outcome) ≡ outcome
when_open closed outcome opened = ap (λ b. if b then refused (Source Closed) else outcome) opened

-- a document is shown, or does not exist
pub document_answered : DocumentsAreOfTheState → {D : Type 0} (device : D → DiskState) (s : Stored D) (now : ℕ) (doc : Doc) (view : Shown) (outcome : LineOutcome) (P : List ℕ → Type 0)
    → s.is_closed ≡ false → view ≡ views.shown_in s.contents → shown_or NoSuchDocument (document_text view doc) ≡ outcome
    → P (outcome_text outcome) → HasAnswer (AskedGives device (script_state s now) (Ok (Document doc))) (script_state s now) P
document_answered one_text device s now doc view outcome P opened is e w =
    let text = ap (λ v. document_text v doc) is ∙ one_text (device s.disk).now.seen s.contents doc in
    let found = sym e ∙ ap (shown_or NoSuchDocument) text in
    was (unchanged (script_state s now) outcome) (ap (unchanged (script_state s now)) (found ∙ sym (when_open s.is_closed (shown_or NoSuchDocument (document_text (shown_of (state_of device s)) doc)) opened))) w

-- a closed source shows no document
pub document_closed : {D : Type 0} (device : D → DiskState) (s : Stored D) (now : ℕ) (doc : Doc) (refusal : denials.Refusal) (P : List ℕ → Type 0)
    → refusal ≡ Closed → s.is_closed ≡ true → P (outcome_text (refused (Source refusal)))
    → HasAnswer (AskedGives device (script_state s now) (Ok (Document doc))) (script_state s now) P
document_closed device s now doc refusal P same closed w =
    was (unchanged (script_state s now) (refused (Source Closed))) (rw closed refl) (subst (λ r. P (outcome_text (refused (Source r)))) same w)

-- an open source is counted
pub counted_answered : {D : Type 0} (device : D → DiskState) (s : Stored D) (now : ℕ) (status : counts.Status) (P : List ℕ → Type 0)
    → s.is_closed ≡ false → status ≡ status_of (state_of device s) → P (outcome_text (counted status))
    → HasAnswer (AskedGives device (script_state s now) (Ok Status)) (script_state s now) P
counted_answered device s now status P opened e w =
    was (unchanged (script_state s now) (counted status)) (ap (unchanged (script_state s now)) (ap counted e ∙ sym (when_open s.is_closed (counted (status_of (state_of device s))) opened))) w

-- a closed source is not counted
pub counted_closed : {D : Type 0} (device : D → DiskState) (s : Stored D) (now : ℕ) (refusal : denials.Refusal) (P : List ℕ → Type 0)
    → refusal ≡ Closed → s.is_closed ≡ true → P (outcome_text (refused (Source refusal)))
    → HasAnswer (AskedGives device (script_state s now) (Ok Status)) (script_state s now) P
counted_closed device s now refusal P same closed w =
    was (unchanged (script_state s now) (refused (Source Closed))) (rw closed refl) (subst (λ r. P (outcome_text (refused (Source r)))) same w)

-- the source was asked for the damaged bodies
pub was_verified : {D : Type 0} (device : D → DiskState) (old new : Stored D) (now : ℕ) (result : Result (Vec (List ℕ) Global) denials.Refusal) (P : List ℕ → Type 0)
    → AnswersVerify device old new result → P (outcome_text (verified_as (length (state_of device old).held) result))
    → HasAnswer (AskedGives device (script_state old now) (Ok Verify)) (script_state new now) P
was_verified device old new now result P a w =
    was (record { outcome = verified_as (length (state_of device old).held) result; commands = []; session = script_state new now }) (record { result = result; answers = a; outcome = refl; commands = refl; now = refl }) w

-- they are shown, with the number of sound ones
pub damaged_told : {D : Type 0} (device : D → DiskState) (old new : Stored D) (now : ℕ) (names : Vec (List ℕ) Global) (written : List (List ℕ)) (sound : ℕ) (status : counts.Status) (P : List ℕ → Type 0)
    → AnswersVerify device old new (Ok names) → written ≡ names.items → status ≡ status_of (state_of device old)
    → sound ≡ status.resources - length names.items → P (verified_text written sound)
    → HasAnswer (AskedGives device (script_state old now) (Ok Verify)) (script_state new now) P
damaged_told device old new now names written sound status P a same e is w =
    let number : sound ≡ length (state_of device old).held - length names.items = is ∙ ap (λ (s : counts.Status). s.resources - length names.items) e in
    was_verified device old new now (Ok names) P a (subst (λ n. P (verified_text names.items n)) number (subst (λ l. P (verified_text l sound)) same w))

-- a closed source checks no body
pub verified_closed : {D : Type 0} (device : D → DiskState) (s : Stored D) (now : ℕ) (refusal : denials.Refusal) (P : List ℕ → Type 0)
    → refusal ≡ Closed → s.is_closed ≡ true → P (outcome_text (refused (Source refusal)))
    → HasAnswer (AskedGives device (script_state s now) (Ok Verify)) (script_state s now) P
verified_closed device s now refusal P same closed w =
    was_verified device s s now (Err Closed) P (record {
      names = tt;
      few = tt;
      once = omega arith;
      closed = (λ _. closed, λ _. refl);
      unread = λ _. refl;
      runs = reading_none (device s.disk) (λ e. absurd cc);
      others = tt;
      reads_only = record { slots = refl; contents = refl; is_closed = refl; rests = rests (device s.disk) (device s.disk) (reading_none {A = ⊥} (device s.disk) (λ none. none)) };
    }) (subst (λ r. P (outcome_text (refused (Source r)))) same w)

-- no request
abbrev denied : Refusal → Result Request Refusal
denied refusal = Err refusal

-- the line is no request, or there was no memory for its request
pub refused_answered : {D : Type 0} (device : D → DiskState) (s : ScriptState (Stored D)) (found : Result Request Refusal) (Room : Type 0) (refusal : Refusal) (P : List ℕ → Type 0)
    → (Err refusal ≡ found) ⊎ ((denied refusal ≡ denied (Line fault.NoMemory)) × Room) → P (outcome_text (refused refusal)) → HasAnswer (AnswerGives device s found Room) s P
refused_answered device s found Room refusal P (inl e) w = was (unchanged s (refused refusal)) (inl (rw (sym e) refl)) w
refused_answered device s found Room refusal P (inr (e, room)) w =
    was (unchanged s (refused refusal)) (inr (room, let same : refusal ≡ Line fault.NoMemory = cc in rw same refl)) w

abbrev asked : Request → Result Request Refusal
asked request = Ok request

-- the line is a request
pub understood : {D : Type 0} (device : D → DiskState) (s new : ScriptState (Stored D)) (found : Result Request Refusal) (Room : Type 0) (request : Request) (P : List ℕ → Type 0)
    → (Ok request ≡ found) ⊎ ((asked request ≡ denied (Line fault.NoMemory)) × Room) → HasAnswer (AskedGives device s (Ok request)) new P → HasAnswer (AnswerGives device s found Room) new P
understood device s new found Room request P (inl e) given = record {
  answer = given.answer;
  gives = inl (subst (λ r. AskedGives device s r given.answer) e given.gives);
  session_is = given.session_is;
  written = given.written;
}
understood device s new found Room request P (inr (e, room)) given = absurd cc

-- a line that is no request
pub foreign_answered : {D : Type 0} (device : D → DiskState) (s : ScriptState (Stored D)) (line : List ℕ) (P : List ℕ → Type 0)
    → (length line ≤ line_limit) × (request_of line ≡ Err (Line fault.BadLine)) → P (outcome_text (refused (Line fault.BadLine))) → HasAnswer (LineGives device s line) s P
foreign_answered device s line P h w = was (unchanged s (refused (Line fault.BadLine))) (inr (h.0, inl (rw h.1 refl))) w

-- a line past the limit
pub long_answered : {D : Type 0} (device : D → DiskState) (s : ScriptState (Stored D)) (line : List ℕ) (P : List ℕ → Type 0)
    → line_limit < length line → P (outcome_text (refused LongLine)) → HasAnswer (LineGives device s line) s P
long_answered device s line P h w = was (unchanged s (refused LongLine)) (inl (h, refl)) w

-- there was no memory for a line
pub no_room_for_line : {D : Type 0} (device : D → DiskState) (s : ScriptState (Stored D)) (line : List ℕ) (P : List ℕ → Type 0)
    → (length line ≤ line_limit) × (9 ≤ length line) → P (outcome_text (refused (Line fault.NoMemory))) → HasAnswer (LineGives device s line) s P
no_room_for_line device s line P h w = was (unchanged s (refused (Line fault.NoMemory))) (inr (h.0, inr (inl h.1, refl))) w

-- a line of these bytes
pub bytes_answered : {D : Type 0} (device : D → DiskState) (s new : ScriptState (Stored D)) (bytes line : List ℕ) (P : List ℕ → Type 0)
    → (bytes ≡ line) × (length line ≤ line_limit)
    → HasAnswer (AnswerGives device s (request_of bytes) (TakesRoom bytes)) new P → HasAnswer (LineGives device s line) new P
bytes_answered device s new bytes line P h given = record {
  answer = given.answer;
  gives = inr (h.1, rw (sym h.0) given.gives);
  session_is = given.session_is;
  written = given.written;
}

-- the body is shown
pub body_shown : {D : Type 0} (device : D → DiskState) (old new : Stored D) (name : List ℕ) (now : ℕ) (bytes : Vec ℕ Global) (written : List ℕ) (P : List ℕ → Type 0)
    → AnswersBody device old new name (Ok bytes) → written ≡ bytes.items → P (shown_text written)
    → HasAnswer (AskedGives device (script_state old now) (Ok (Body name))) (script_state new now) P
body_shown device old new name now bytes written P a same w = was_read device old new name now (Ok bytes) P a (subst (λ b. P (shown_text b)) same w)

-- a source that does not refuse a request is open
pub is_open : {T : Type 0} (result : Result T denials.Refusal) (given : T) (closed : Bool) → result ≡ Ok given
    → IsErrOf result Closed ↔ IsTrue closed → closed ≡ false
is_open result given false is h = refl
is_open result given true is h = let no : IsErrOf result Closed = h.1 refl in absurd cc

-- a source that refuses every request is closed
pub is_closed : {T : Type 0} (result : Result T denials.Refusal) (refusal : denials.Refusal) (closed : Bool) → result ≡ Err refusal → refusal ≡ Closed
    → IsErrOf result Closed ↔ IsTrue closed → closed ≡ true
is_closed result refusal closed is same h = h.0 (is ∙ ap Err same)

-- its answer: its length, its text and a line feed
pub shown_head : (text : List ℕ) (count : ℕ) → length text ≡ count → (codes "bytes " ++ (decimal count ++ codes "\n")) ++ (text ++ 10 ∷ []) ≡ shown_text text
shown_head text count same = ap (λ (n : ℕ). (codes "bytes " ++ (decimal n ++ codes "\n")) ++ (text ++ 10 ∷ [])) (sym same)

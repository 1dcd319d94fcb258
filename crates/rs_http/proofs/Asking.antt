-- The outcomes by the answers of the source.
use Rattle.std.proofs.Common.{◌≡◌, ℕ, List, [], ◌++◌, append_assoc, append-nil, codes, Option, Some, Result, Ok, Err, Vec, Global, Bool, true, false, ◌↔◌, ◌⊎◌, inl, inr, length, refl, ap, sym, subst, ◌∙◌, if◌then◌else◌, IsErrOf, IsTrue}
use Rattle.rs_disk.specs.Medium.{DiskState}
use Rattle.rs_http.specs.declared.status.StatusCode.{StatusCode}
use Rattle.rs_http.specs.declared.status.StatusCode.TheVariants as statuses
use Rattle.rs_http.proofs.FromBelow.{reading_as}
use Rattle.rs_model.specs.Step.{is_held}
use Rattle.rs_lists.specs.declared.doc.Doc.{Doc}
use Rattle.rs_lists.specs.Shown.{Shown}
use Rattle.rs_caps.specs.DocumentTexts.{document_text}
use Rattle.rs_caps.specs.Shows.{shown_of}
use Rattle.rs_store.specs.AnswersBody.{AnswersBody}
use Rattle.rs_store.specs.Shows.{kind_of, IsOfBody, IsOfKind}
use Rattle.rs_store.specs.Source.{Stored, state_of}
use Rattle.rs_store.specs.Views as views
use Rattle.rs_store.specs.declared.refusal.Refusal as stored
use Rattle.rs_store.specs.declared.refusal.Refusal.TheVariants.{Closed, NotHeld, Device, Damaged, NoMemory}
use Rattle.rs_recovery.specs.Documents.{DocumentsAreOfTheState}
use Rattle.rs_io.specs.declared.watch.Watched.{Watched}
use Rattle.rs_io.specs.declared.fault.StreamFault.{StreamFault}
use Rattle.rs_http.specs.declared.response.Framing.{Framing}
use Rattle.httpdate.specs.Date.{date_text}
use Rattle.rs_http.specs.Turn.{Turn}
use Rattle.rs_http.specs.Responses.{RequestOutcome, shown, refused, response_text, first_lines, content_lines, sent_body, framed}
use Rattle.rs_http.specs.Outcomes.{ReadComesTo, document_or_none, document_shown, Sends, Responds}

module _ {W : Type 0} {contents : W → Option (List ℕ)} {before after : Watched W} {framing : Framing} {result : Result StatusCode StreamFault} where
  -- an outcome is answered
  pub answered : {comes : RequestOutcome → Type 0} (outcome : RequestOutcome) → comes outcome → Sends contents before after framing outcome result
      → Responds contents before after framing comes result
  answered outcome is sends = record { outcome = outcome; comes_of_it = is; sends = sends }

  -- the property of the outcome may be weaker
  pub answers_more : {comes more : RequestOutcome → Type 0} → ((outcome : RequestOutcome) → comes outcome → more outcome)
      → Responds contents before after framing comes result → Responds contents before after framing more result
  answers_more is r = record { outcome = r.outcome; comes_of_it = is r.outcome r.comes_of_it; sends = r.sends }

-- a source that gives the requested value is open
opened : {T : Type 0} (given : T) (closed : Bool) → IsErrOf {E = stored.Refusal} (Ok given) Closed ↔ IsTrue closed → closed ≡ false
opened given false h = refl
opened given true h =
    let no : IsErrOf {E = stored.Refusal} (Ok given) Closed = h.1 refl in
    absurd cc

-- a refusal of a type may be one of a body
of_kind : (refusal : stored.Refusal) → IsOfKind refusal → IsOfBody refusal
of_kind Closed is = tt
of_kind NotHeld is = tt
of_kind NoMemory is = tt
of_kind refusal is = absurd is

-- a refusal does not depend on the type of the value
elsewhere : {A B : Type 0} (r s : stored.Refusal) (P : Type 0) → IsErrOf {T = A} (Err r) s ↔ P → IsErrOf {T = B} (Err r) s ↔ P
elsewhere {A = A} {B = B} r s P h =
    let there : IsErrOf {T = A} (Err r) s → IsErrOf {T = B} (Err r) s = λ e. let is : r ≡ s = cc in ap Err is in
    let back : IsErrOf {T = B} (Err r) s → IsErrOf {T = A} (Err r) s = λ e. let is : r ≡ s = cc in ap Err is in
    (λ e. h.0 (back e), λ p. there (h.1 p))

-- a source that gave a body has the same state
module _ {D : Type 0} {device : D → DiskState} (turn : Turn device) (name : List ℕ) (bytes : Vec ℕ Global) (a : AnswersBody device turn.old turn.new name (Ok bytes)) where
  abbrev old : Stored D
  old = turn.old

  abbrev new : Stored D
  new = turn.new

  same_state : state_of device new ≡ state_of device old
  same_state =
      let now : (device new.disk).now ≡ (device old.disk).now = a.runs.now in
      let contents : new.contents ≡ old.contents = a.reads_only.contents in
      cc

  -- the body is shown with its recorded type
  pub body_shown : (kind k given : List ℕ) → kind_of name (state_of device new) ≡ Some kind → k ≡ kind → given ≡ bytes.items → ReadComesTo turn name (shown k given)
  body_shown kind k given e type_is is = record {
    result = Ok bytes;
    answers = a;
    outcome_is = (k, ap (kind_of name) (sym same_state) ∙ e ∙ ap Some (sym type_is), ap (shown k) is);
  }

  -- the refusal is neither `Closed` nor `NotHeld`
  unread_of : (refusal : stored.Refusal) → IsErrOf {T = Vec ℕ Global} (Err refusal) Closed ↔ IsTrue old.is_closed
      → IsErrOf {T = Vec ℕ Global} (Err refusal) NotHeld ↔ ((old.is_closed ≡ false) × (is_held (state_of device old) name ≡ false))
      → IsErrOf {T = Vec ℕ Global} (Err refusal) Closed ⊎ IsErrOf {T = Vec ℕ Global} (Err refusal) NotHeld → new ≡ old
  unread_of refusal closed not_held (inl is) =
      let no : IsErrOf {E = stored.Refusal} (Ok bytes) Closed = a.closed.1 (closed.0 is) in
      absurd cc
  unread_of refusal closed not_held (inr is) =
      let no : IsErrOf {E = stored.Refusal} (Ok bytes) NotHeld = a.not_held.1 (not_held.0 is) in
      absurd cc

  -- or there is no memory for its type, and the body is refused
  pub kind_refused : (refusal : stored.Refusal) → IsErrOf {T = List ℕ} (Err refusal) Closed ↔ IsTrue new.is_closed
      → IsErrOf {T = List ℕ} (Err refusal) NotHeld ↔ ((new.is_closed ≡ false) × (is_held (state_of device new) name ≡ false)) → IsOfKind refusal → ReadComesTo turn name (refused refusal)
  kind_refused refusal closed not_held is =
      let shut : IsErrOf {T = Vec ℕ Global} (Err refusal) Closed ↔ IsTrue old.is_closed =
      elsewhere refusal Closed (IsTrue old.is_closed) (subst (λ b. IsErrOf {T = List ℕ} (Err refusal) Closed ↔ IsTrue b) a.reads_only.is_closed closed) in
      let lacks : IsErrOf {T = Vec ℕ Global} (Err refusal) NotHeld ↔ ((old.is_closed ≡ false) × (is_held (state_of device old) name ≡ false)) =
      elsewhere refusal NotHeld ((old.is_closed ≡ false) × (is_held (state_of device old) name ≡ false))
      (subst (λ b. IsErrOf {T = List ℕ} (Err refusal) NotHeld ↔ ((b ≡ false) × (is_held (state_of device old) name ≡ false))) a.reads_only.is_closed
      (subst (λ s. IsErrOf {T = List ℕ} (Err refusal) NotHeld ↔ ((new.is_closed ≡ false) × (is_held s name ≡ false))) same_state not_held)) in
      record {
        result = Err refusal;
        answers = record {
          reads = tt;
          recorded = tt;
          closed = shut;
          not_held = lacks;
          damaged = λ e. let no : refusal ≡ Damaged = cc in absurd (subst IsOfKind no is);
          once = a.once;
          unread = unread_of refusal shut lacks;
          runs = reading_as (device old.disk) (device new.disk) (λ e. absurd cc) (λ e. let no : refusal ≡ Device = cc in absurd (subst IsOfKind no is)) a.runs;
          others = of_kind refusal is;
          reads_only = a.reads_only;
        };
        outcome_is = refl;
      }

no_body : (b : Bool) (text : List ℕ) → text ≡ [] → (if b then [] else text) ≡ []
no_body true text none = refl
no_body false text none = none

-- the head of its response, and then its text, which a HEAD leaves out
pub document_head : (framing : Framing) (text : List ℕ) (count : ℕ) → length text ≡ count
    → framed framing statuses.Ok (content_lines (codes "application/xml") count) [] ++ sent_body framing text ≡ response_text framing (shown (codes "application/xml") text)
document_head framing text count same =
    let first = first_lines statuses.Ok (date_text framing.date) in
    let lines = content_lines (codes "application/xml") count in
    let none : sent_body framing [] ≡ [] = no_body framing.is_head [] refl in
    let bare : framed framing statuses.Ok lines [] ≡ first ++ lines = ap (λ (l : List ℕ). first ++ (lines ++ l)) none ∙ ap (λ (l : List ℕ). first ++ l) (append-nil lines) in
    ap (λ (l : List ℕ). l ++ sent_body framing text) bare ∙ append_assoc first lines (sent_body framing text)
    ∙ ap (λ (n : ℕ). first ++ (content_lines (codes "application/xml") n ++ sent_body framing text)) (sym same)

when_open : (closed : Bool) (outcome : RequestOutcome) → closed ≡ false → outcome ≡ (if closed then refused Closed else outcome)
when_open closed outcome is = sym (ap (λ b. if b then refused Closed else outcome) is)

-- a view of an open source shows the documents of its state
pub document_is : DocumentsAreOfTheState → {D : Type 0} (device : D → DiskState) (s : Stored D) (doc : Doc) (view : Shown) (outcome : RequestOutcome) {T : Type 0} (given : T)
    → IsErrOf {E = stored.Refusal} (Ok given) Closed ↔ IsTrue s.is_closed → view ≡ views.shown_in s.contents
    → document_or_none (document_text view doc) ≡ outcome → outcome ≡ document_shown device s doc
document_is one_text device s doc view outcome given closed is e =
    let text = ap (λ v. document_text v doc) is ∙ one_text (device s.disk).now.seen s.contents doc in
    sym e ∙ ap document_or_none text ∙ when_open s.is_closed (document_or_none (document_text (shown_of (state_of device s)) doc)) (opened given s.is_closed closed)

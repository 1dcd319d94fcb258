-- A request makes a walk.
use Rattle.std.proofs.Common.{◌≡◌, inl, inr, ◌≤◌, ℕ, Bool, true, false, List, [], ◌∷◌, ◌++◌, length, refl, sym, ◌∙◌, ap, subst, arith, cond, Option, Some, None, Result, Ok, Err, Vec, Global, IsTrue, length-append}
use Rattle.std.specs.Prelude.{codes}
use Rattle.rs_disk.specs.Medium.{DiskState, IsMedium}
use Rattle.rs_model.specs.State.{Source, body_of}
use Rattle.rs_model.specs.declared.command.Command.{Command}
use Rattle.rs_model.specs.declared.command.Command.TheVariants as commands
use Rattle.rs_model.specs.declared.command.Item.{Item}
use Rattle.rs_model.specs.declared.command.Refusal as model
use Rattle.rs_model.specs.declared.command.Refusal.TheVariants as decides
use Rattle.rs_model.specs.declared.command.Reply.{Reply}
use Rattle.rs_model.specs.declared.event.Event.{Event}
use Rattle.rs_model.specs.declared.event.Event.TheVariants.{Fetch, Refused}
use Rattle.rs_lists.specs.declared.doc.Doc.{Doc}
use Rattle.rs_caps.specs.Answer.{answer}
use Rattle.rs_caps.specs.DocumentTexts.{document_text}
use Rattle.rs_caps.specs.PathAnswers.{body_path, DocumentsAreAnswered, BodiesAreAnswered}
use Rattle.rs_caps.specs.Paths.{path_of, HasCounts}
use Rattle.rs_caps.specs.Shows.{shown_of}
use Rattle.rs_store.specs.Answered.{Answers}
use Rattle.rs_store.specs.AnswersBody.{AnswersBody}
use Rattle.rs_store.specs.Laws.{HeldStands}
use Rattle.rs_store.specs.Received.{IsBodyOf, AnswersFrom, coming_put}
use Rattle.rs_store.specs.Refusals.{named_as}
use Rattle.rs_store.specs.Source.{Stored, Holds, state_of}
use Rattle.rs_store.specs.declared.refusal.Refusal as stored
use Rattle.rs_store.specs.declared.refusal.Refusal.TheVariants.{Closed, ReadFault, ShortBody, Device, NoMemory}
use Rattle.rs_recovery.specs.Turns.{ReadingsIdle}
use Rattle.rs_recovery.specs.Walked.{CommandEvents, LeavesWalk, CommandsMakeWalks}
use Rattle.rs_http.proofs.FromBelow.{begins_one, may_fit, told, walked}
use Rattle.rs_http.specs.declared.request.RequestPlan.{RequestPlan}
use Rattle.rs_http.specs.declared.request.RequestPlan.TheVariants.{ShowBody, ShowDocument, Put, Delete, Publish, Group}
use Rattle.rs_http.specs.declared.request.RequestFault.{RequestFault}
use Rattle.rs_http.specs.Turn.{Turn}
use Rattle.rs_http.specs.Groups.{items_asked}
use Rattle.rs_http.specs.Outcomes.{outcome_replied, IsShownAs, RunComesTo, UnaskedGroup, GroupComesTo, document_or_none, document_shown, RequestGives}
use Rattle.rs_http.specs.Responses.{RequestOutcome, shown, refused}
use Rattle.rs_http.specs.Serving.{IsBroken}
use Rattle.rs_http.specs.Walked.{RunEvents, PutEvents, GroupEvents, ShowEvents, PlanEvents, IsBodyFor}
use Rattle.rs_http.specs.Laws.{RequestsMakeWalks, BrokenBodiesMakeNoEvent}
use Rattle.rs_http.proofs.Counting.{whole_body}
use Rattle.rs_http.proofs.Groups.{asked_items, asked_faulty, asked_short}
use Rattle.rs_http.proofs.NamedDocuments.{HasPath, asked_has}

abbrev Kind : Type 1
Kind = List Event → Type 0

-- the model refuses no command for memory
never_named : (reason : model.Refusal) → named_as reason ≡ NoMemory → ⊥
never_named decides.BadGroup e = absurd cc
never_named reason e = absurd cc

module _ {D : Type 0} {device : D → DiskState} (turn : Turn device) where
  pub some_of : (name kind : List ℕ) (n : ℕ) (came : List ℕ) (result : Result Reply stored.Refusal)
      → AnswersFrom device turn.old turn.new (coming_put name kind n turn.now) came result → length came ≤ n
  some_of name kind n came (Ok reply) a = omega (arith, a.0)
  some_of name kind n came (Err ReadFault) a = omega (arith, a.fewer)
  some_of name kind n came (Err ShortBody) a = omega (arith, a.fewer)
  some_of name kind n came (Err refusal) a = may_fit n came refusal a.0

  pub some_body : (plan : Result RequestPlan RequestFault) (more : List ℕ) (rest : Option (List ℕ)) (outcome : RequestOutcome) → RequestGives turn plan more rest outcome
      → (body : List ℕ) × IsBodyFor plan more body
  some_body (Ok (Put name kind n waits)) more rest outcome gives = begins_one n more (some_of name kind n more gives.0.result gives.0.answers)
  some_body (Ok (Group n waits)) more rest outcome gives = (more, refl)
  some_body plan more rest outcome gives = ([], tt)

module _ {D : Type 0} (device : D → DiskState) (sound : (disk : D) → IsMedium (device disk).size (device disk).now) (stands : HeldStands device)
    (reading : ReadingsIdle device) (commands_walk : CommandsMakeWalks device) (documents : DocumentsAreAnswered) (bodies : BodiesAreAnswered)
    (turn : Turn device) (s : Source) (holds : Holds device turn.old s) where
  -- no event
  nothing : (M : Kind) → M [] → Holds device turn.new s → LeavesWalk device s M turn.new
  nothing M none held = walked device stands s M turn.new [] none held

  same_held : turn.new ≡ turn.old → Holds device turn.new s
  same_held same = subst (λ (x : Stored D). Holds device x s) (sym same) holds

  of_reply : (command : Command) (result : Result Reply stored.Refusal) → LeavesWalk device s (CommandEvents s command turn.now result) turn.new
      → LeavesWalk device s (RunEvents s command turn.now (outcome_replied result)) turn.new
  of_reply command (Ok reply) walk = walk
  of_reply command (Err refusal) walk = walk

  run_walk : (command : Command) (outcome : RequestOutcome) → RunComesTo turn command outcome
      → LeavesWalk device s (RunEvents s command turn.now outcome) turn.new
  run_walk command outcome r =
      let P : RequestOutcome → Type 0 = λ o. LeavesWalk device s (RunEvents s command turn.now o) turn.new in
      subst P (sym r.outcome_is) (of_reply command r.result (commands_walk turn.old turn.new s command turn.now r.result holds r.answers))

  -- a put, by its answer
  module _ (name kind : List ℕ) (n : ℕ) (came body : List ℕ) (whole : IsBodyOf n came body) where
    abbrev put : Command
    put = commands.Put name kind body

    was_put : (result : Result Reply stored.Refusal) → Answers device turn.old turn.new put turn.now result → LeavesWalk device s (CommandEvents s put turn.now result) turn.new
    was_put result answers = commands_walk turn.old turn.new s put turn.now result holds answers

    all_came : (reply : Reply) → length came ≡ n → Answers device turn.old turn.new (commands.Put name kind came) turn.now (Ok reply) → Answers device turn.old turn.new put turn.now (Ok reply)
    all_came reply all answers =
        subst (λ (b : List ℕ). Answers device turn.old turn.new (commands.Put name kind b) turn.now (Ok reply)) (sym (whole_body n came body all whole)) answers

    put_walk : (result : Result Reply stored.Refusal) → AnswersFrom device turn.old turn.new (coming_put name kind n turn.now) came result
        → LeavesWalk device s (PutEvents s put turn.now (outcome_replied result)) turn.new
    put_walk (Ok reply) a = was_put (Ok reply) (all_came reply a.0 a.1)
    put_walk (Err ReadFault) a = nothing (PutEvents s put turn.now (refused ReadFault)) refl (a.left.holds s holds).0
    put_walk (Err ShortBody) a = nothing (PutEvents s put turn.now (refused ShortBody)) refl (a.left.holds s holds).0
    put_walk (Err refusal) a = was_put (Err refusal) (a.1 body whole)

  -- a group, by the items that it asks for
  abbrev Grouped : RequestOutcome → Option (List Item) → Type 0
  Grouped outcome asked = LeavesWalk device s (GroupEvents s asked turn.now outcome) turn.new

  lacking_walk : (asked : Option (List Item)) → Holds device turn.new s → Grouped (refused NoMemory) asked
  lacking_walk None held = nothing (GroupEvents s None turn.now (refused NoMemory)) refl held
  lacking_walk (Some items) held =
      let group : Command = commands.Group items in
      walked device stands s (RunEvents s group turn.now (refused NoMemory)) turn.new (Refused group ∷ []) (inr (λ refuses. never_named refuses.0 refuses.2, refl)) held

  unasked_walk : (n : ℕ) (came : List ℕ) (rest : Option (List ℕ)) (outcome : RequestOutcome) → UnaskedGroup n came rest outcome → Holds device turn.new s → Grouped outcome (items_asked n came)
  unasked_walk n came rest outcome (inl short) held = subst (Grouped outcome) (sym (asked_short n came short.0)) (nothing (GroupEvents s None turn.now outcome) refl held)
  unasked_walk n came rest outcome (inr (inl faulty)) held =
      subst (Grouped outcome) (sym (asked_faulty n came faulty.1 faulty.0 faulty.2)) (nothing (GroupEvents s None turn.now outcome) refl held)
  unasked_walk n came rest outcome (inr (inr (inl body))) held =
      subst (λ (o : RequestOutcome). Grouped o (items_asked n came)) (sym body.1) (lacking_walk (items_asked n came) held)
  unasked_walk n came rest outcome (inr (inr (inr items))) held =
      subst (λ (o : RequestOutcome). Grouped o (items_asked n came)) (sym items.1) (lacking_walk (items_asked n came) held)

  group_walk : (n : ℕ) (came : List ℕ) (rest : Option (List ℕ)) (outcome : RequestOutcome) → GroupComesTo turn n came rest outcome → Grouped outcome (items_asked n came)
  group_walk n came rest outcome (inl unasked) = unasked_walk n came rest outcome unasked.1 (same_held unasked.0)
  group_walk n came rest outcome (inr asked) =
      subst (Grouped outcome) (sym (asked_items n came asked.items asked.whole asked.are)) (run_walk (commands.Group asked.items) outcome asked.comes)

  -- the walk of shown bytes
  shown_walk : (is_head : Bool) (path kind bytes : List ℕ) → answer s path ≡ Some bytes → Holds device turn.new s
      → LeavesWalk device s (ShowEvents is_head s path (shown kind bytes)) turn.new
  shown_walk true path kind bytes is held = nothing (ShowEvents true s path (shown kind bytes)) refl held
  shown_walk false path kind bytes is held = walked device stands s (ShowEvents false s path (shown kind bytes)) turn.new (Fetch ∷ []) (is, refl) held

  unshown_walk : (is_head : Bool) (path : List ℕ) (refusal : stored.Refusal) → Holds device turn.new s → LeavesWalk device s (ShowEvents is_head s path (refused refusal)) turn.new
  unshown_walk true path refusal held = nothing (ShowEvents true s path (refused refusal)) refl held
  unshown_walk false path refusal held = nothing (ShowEvents false s path (refused refusal)) refl held

  found_walk : (is_head : Bool) (path : List ℕ) (found : Option (List ℕ)) → answer s path ≡ found → Holds device turn.new s
      → LeavesWalk device s (ShowEvents is_head s path (document_or_none found)) turn.new
  found_walk is_head path (Some bytes) is held = shown_walk is_head path (codes "application/xml") bytes is held
  found_walk true path None is held = nothing (ShowEvents true s path (document_or_none None)) refl held
  found_walk false path None is held = nothing (ShowEvents false s path (document_or_none None)) refl held

  document_walk : (is_head : Bool) (doc : Doc) (outcome : RequestOutcome) → HasCounts doc → outcome ≡ document_shown device turn.old doc → turn.new ≡ turn.old
      → LeavesWalk device s (ShowEvents is_head s (path_of doc) outcome) turn.new
  document_walk is_head doc outcome counts is same =
      let P : RequestOutcome → Type 0 = λ o. LeavesWalk device s (ShowEvents is_head s (path_of doc) o) turn.new in
      let shows : Source → RequestOutcome = λ t. document_or_none (document_text (shown_of t) doc) in
      let open_shows : document_shown device turn.old doc ≡ shows s =
      ap (λ (b : Bool). cond b (refused Closed) (shows (state_of device turn.old))) holds.is_open ∙ ap shows (told device sound turn.old s holds) in
      subst P (sym (is ∙ open_shows)) (found_walk is_head (path_of doc) (document_text (shown_of s) doc) (documents s doc counts) (same_held same))

  read_walk : (is_head : Bool) (name : List ℕ) (result : Result (Vec ℕ Global) stored.Refusal) (outcome : RequestOutcome) → AnswersBody device turn.old turn.new name result
      → IsShownAs (state_of device turn.old) name result outcome → IsTrue (device turn.new.disk).honest
      → LeavesWalk device s (ShowEvents is_head s (body_path name) outcome) turn.new
  read_walk is_head name (Ok bytes) outcome a is honest =
      let P : RequestOutcome → Type 0 = λ o. LeavesWalk device s (ShowEvents is_head s (body_path name) o) turn.new in
      let here : body_of name s ≡ Some bytes.items = ap (body_of name) (sym (told device sound turn.old s holds)) ∙ a.reads honest in
      subst P (sym is.2) (shown_walk is_head (body_path name) is.0 bytes.items (bodies s name ∙ here) ((reading turn.old turn.new a.reads_only).holds s holds).0)
  read_walk is_head name (Err refusal) outcome a is honest =
      let P : RequestOutcome → Type 0 = λ o. LeavesWalk device s (ShowEvents is_head s (body_path name) o) turn.new in
      subst P (sym is) (unshown_walk is_head (body_path name) refusal ((reading turn.old turn.new a.reads_only).holds s holds).0)

  plan_walk : (is_head : Bool) (plan : Result RequestPlan RequestFault) (more : List ℕ) (rest : Option (List ℕ)) (outcome : RequestOutcome) (body : List ℕ) → HasPath plan
      → RequestGives turn plan more rest outcome → IsTrue (device turn.new.disk).honest → IsBodyFor plan more body
      → LeavesWalk device s (PlanEvents is_head s turn.now plan body outcome) turn.new
  plan_walk is_head (Ok (ShowBody name)) more rest outcome body has gives honest is =
      read_walk is_head name gives.1.result outcome gives.1.answers gives.1.outcome_is honest
  plan_walk is_head (Ok (ShowDocument doc)) more rest outcome body has gives honest is = document_walk is_head doc outcome has gives.1 gives.2
  plan_walk is_head (Ok (Put name kind n waits)) more rest outcome body has gives honest is =
      let P : RequestOutcome → Type 0 = λ o. LeavesWalk device s (PutEvents s (commands.Put name kind body) turn.now o) turn.new in
      subst P (sym gives.0.outcome_is) (put_walk name kind n more body is gives.0.result gives.0.answers)
  plan_walk is_head (Ok (Delete name)) more rest outcome body has gives honest is = run_walk (commands.Delete name) outcome gives.1
  plan_walk is_head (Ok Publish) more rest outcome body has gives honest is = run_walk commands.Publish outcome gives.1
  plan_walk is_head (Ok (Group n waits)) more rest outcome body has gives honest is =
      subst (λ (b : List ℕ). Grouped outcome (items_asked n b)) (sym is) (group_walk n more rest outcome gives)
  plan_walk is_head (Err reason) more rest outcome body has gives honest is =
      nothing (PlanEvents is_head s turn.now (Err reason) body outcome) refl (same_held gives.2)

  broken_walk : (plan : Result RequestPlan RequestFault) (more : List ℕ) → IsBroken turn plan more → LeavesWalk device s (λ events. events ≡ []) turn.new
  broken_walk (Ok (Put name kind n waits)) more broken = nothing (λ events. events ≡ []) refl (broken.left.holds s holds).0
  broken_walk (Ok (Group n waits)) more broken = nothing (λ events. events ≡ []) refl (same_held broken.1)
  broken_walk plan more broken = absurd broken

module _ {D : Type 0} (device : D → DiskState) (sound : (disk : D) → IsMedium (device disk).size (device disk).now) (stands : HeldStands device)
    (reading : ReadingsIdle device) (walking : CommandsMakeWalks device) (documents : DocumentsAreAnswered) (bodies : BodiesAreAnswered) where
  pub requests_walk : RequestsMakeWalks device
  requests_walk turn bytes read request more rest outcome asks gives = record {
    some_body = some_body turn request.plan more rest outcome gives;
    walks = λ s body holds honest is.
        plan_walk device sound stands reading walking documents bodies turn s holds request.is_head request.plan more rest outcome body
        (asked_has bytes read request asks) gives honest is;
  }

  pub broken_bodies_walk : BrokenBodiesMakeNoEvent device
  broken_bodies_walk turn plan more broken s holds = broken_walk device sound stands reading walking documents bodies turn s holds plan more broken

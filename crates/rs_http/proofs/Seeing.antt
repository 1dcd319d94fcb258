-- Only a GET or a HEAD is shown bytes.
use Rattle.std.proofs.Common.{◌≡◌, inl, inr, ℕ, Bool, true, false, List, [], ◌∷◌, ◌++◌, append_assoc, refl, sym, ap, ◌∙◌, cond, Option, Some, None, Result, Ok, Err, IsTrue}
use Rattle.std.specs.Prelude.{not, ◌||◌, unwrap_or}
use Rattle.httparse.specs.Ascii.{space}
use Rattle.httparse.specs.Grammar.{RequestHead, ReadsRequest, print_blank, print_version, print_end, print_section, print_request}
use Rattle.rs_disk.specs.Medium.{DiskState}
use Rattle.rs_model.specs.declared.command.Command.{Command}
use Rattle.rs_model.specs.declared.command.Command.TheVariants as commands
use Rattle.rs_model.specs.declared.command.Reply.{Reply}
use Rattle.rs_store.specs.declared.refusal.Refusal as stored
use Rattle.rs_http.specs.declared.target.Place.{Place}
use Rattle.rs_http.specs.declared.target.Place.TheVariants.{Resource, Unlawful, Document, Publishing, Grouping, Nowhere}
use Rattle.rs_http.specs.declared.target.Methods.TheVariants.{OfResources, OfDocuments}
use Rattle.rs_http.specs.declared.head.HeadRead.{HeadRead}
use Rattle.rs_http.specs.declared.head.HeadRead.TheVariants.{Whole, TooLong, Ended}
use Rattle.rs_http.specs.declared.request.RequestPlan.{RequestPlan}
use Rattle.rs_http.specs.declared.request.RequestPlan.TheVariants.{ShowBody, ShowDocument, Put, Delete, Publish, Group}
use Rattle.rs_http.specs.declared.request.RequestFault.{RequestFault}
use Rattle.rs_http.specs.declared.request.RequestFault.TheVariants.{BadMethod}
use Rattle.rs_http.specs.declared.request.Request.{Request}
use Rattle.rs_http.specs.Fields.{Parts, head_parts}
use Rattle.rs_http.specs.Checks.{Causes, first_fault, is_get, is_put, is_delete, kinds_in, stated_in, expects_word, put_plan, group_plan, resource_plan, plan_at, place_in, field_causes, put_head_causes_in, place_causes, causes_of}
use Rattle.rs_http.specs.Requests.{IsPlanFor, Asks}
use Rattle.rs_http.specs.Turn.{Turn}
use Rattle.rs_http.specs.Responses.{RequestOutcome, shown}
use Rattle.rs_http.specs.Outcomes.{outcome_replied, RunComesTo, UnaskedGroup, GroupComesTo, RequestGives}
use Rattle.rs_http.specs.Told.{AsksToSee, IsAsked}
use Rattle.rs_http.proofs.Plans.{free_after}

-- this plan is to show bytes
abbrev shows : Result RequestPlan RequestFault → Bool
shows (Ok (ShowBody name)) = true
shows (Ok (ShowDocument doc)) = true
shows plan = false

-- a cause that does not apply
none_applies : (gets : Bool) (fault : RequestFault) → first_fault ((not gets, fault) ∷ []) ≡ None → IsTrue gets
none_applies true fault free = refl
none_applies false fault free = absurd cc

-- a request for a resource that is shown
resource_gets : (gets puts deletes : Bool) (fault : RequestFault) (causes : Causes) (put : RequestPlan) (name : List ℕ) → shows (Ok put) ≡ false
    → first_fault ((not (gets || puts || deletes), fault) ∷ causes) ≡ None → shows (Ok (cond puts put (cond deletes (Delete name) (ShowBody name)))) ≡ true → IsTrue gets
resource_gets true puts deletes fault causes put name hidden free is = refl
resource_gets false true deletes fault causes put name hidden free is = sym hidden ∙ is
resource_gets false false true fault causes put name hidden free is = is
resource_gets false false false fault causes put name hidden free is = absurd cc

place_gets : (place : Place) (p : Parts) (plan : RequestPlan) → first_fault (place_causes place p) ≡ None → plan_at place p ≡ Some plan → shows (Ok plan) ≡ true
    → IsTrue (is_get p.method)
place_gets (Document doc) p plan free planned is = none_applies (is_get p.method) (BadMethod OfDocuments) free
place_gets (Resource name) p plan free planned is =
    let same : resource_plan name p ≡ plan = cc in
    resource_gets (is_get p.method) (is_put p.method) (is_delete p.method) (BadMethod OfResources) (cond (is_put p.method) (put_head_causes_in p) [])
    (put_plan name (kinds_in p.fields) (unwrap_or (stated_in p) 0) (expects_word p)) name refl free (ap (λ (q : RequestPlan). shows (Ok q)) same ∙ is)
place_gets Publishing p plan free planned is =
    let same : Publish ≡ plan = cc in
    let no : false ≡ true = ap (λ (q : RequestPlan). shows (Ok q)) same ∙ is in absurd cc
place_gets Grouping p plan free planned is =
    let same : group_plan (unwrap_or (stated_in p) 0) (expects_word p) ≡ plan = cc in
    let no : false ≡ true = ap (λ (q : RequestPlan). shows (Ok q)) same ∙ is in absurd cc
place_gets Unlawful p plan free planned is = absurd cc
place_gets Nowhere p plan free planned is = absurd cc

planned_gets : (p : Parts) (plan : Result RequestPlan RequestFault) → IsPlanFor (causes_of p) (plan_at (place_in p) p) plan → shows plan ≡ true → IsTrue (is_get p.method)
planned_gets p (Ok plan) planned is = place_gets (place_in p) p plan (free_after (field_causes p) (place_causes (place_in p) p) planned.0) planned.1 is
planned_gets p (Err reason) planned is = absurd cc

-- the method of a head, and all that follows it
behind_method : (front target version end fields after more : List ℕ)
    → front ++ target ++ version ++ end ++ fields ++ after ++ more ≡ front ++ (target ++ version ++ end ++ fields ++ after ++ more)
behind_method front target version end fields after more = simp append_assoc

begins : (h : RequestHead) (after more : List ℕ) → (rest : List ℕ) × (print_request h ++ after ++ more ≡ print_blank h.blank ++ h.method ++ space ∷ rest)
unfolding print_request
begins h after more = (
  h.target ++ space ∷ print_version h.minor ++ print_end h.line_end ++ print_section h.fields h.last ++ after ++ more,
  behind_method (print_blank h.blank ++ h.method) (space ∷ h.target) (space ∷ print_version h.minor) (print_end h.line_end) (print_section h.fields h.last) after more,
)

head_sees : (bytes more : List ℕ) (h : RequestHead) (after : List ℕ) → ReadsRequest bytes h after → IsTrue (is_get h.method) → AsksToSee (bytes ++ more)
head_sees bytes more h after reads gets =
    let begun = begins h after more in record {
      blank = h.blank;
      method = h.method;
      gets = gets;
      rest = begun.0;
      bytes_are = ap (λ (b : List ℕ). b ++ more) reads.1 ∙ begun.1;
    }

-- a plan to show bytes comes of the bytes of a GET or a HEAD
asked_to_see : (bytes more : List ℕ) (read : HeadRead) (request : Request) → Asks bytes read (Some request) → shows request.plan ≡ true → AsksToSee (bytes ++ more)
asked_to_see bytes more Whole request (inl bad) is = let no : shows request.plan ≡ false = ap (λ (r : Request). shows r.plan) bad.1 in absurd cc
asked_to_see bytes more Whole request (inr good) is =
    head_sees bytes more good.0 good.1 good.2 (planned_gets (head_parts good.0) request.plan good.3.plan is)
asked_to_see bytes more TooLong request same is = let no : shows request.plan ≡ false = ap (λ (r : Request). shows r.plan) same in absurd cc
asked_to_see bytes more Ended request asks is = let no : shows request.plan ≡ false = ap (λ (r : Request). shows r.plan) asks.1 in absurd cc

-- this outcome shows bytes
abbrev is_shown : RequestOutcome → Bool
is_shown (shown kind bytes) = true
is_shown outcome = false

replied_hides : (result : Result Reply stored.Refusal) → is_shown (outcome_replied result) ≡ false
replied_hides (Ok reply) = refl
replied_hides (Err refusal) = refl

unasked_hides : (n : ℕ) (came : List ℕ) (rest : Option (List ℕ)) (outcome : RequestOutcome) → UnaskedGroup n came rest outcome → is_shown outcome ≡ false
unasked_hides n came rest outcome (inl short) = ap is_shown short.2
unasked_hides n came rest outcome (inr (inl faulty)) = ap is_shown faulty.3
unasked_hides n came rest outcome (inr (inr (inl body))) = ap is_shown body.1
unasked_hides n came rest outcome (inr (inr (inr items))) = ap is_shown items.1

module _ {D : Type 0} {device : D → DiskState} (turn : Turn device) where
  run_hides : (command : Command) (outcome : RequestOutcome) → RunComesTo turn command outcome → is_shown outcome ≡ false
  run_hides command outcome r = ap is_shown r.outcome_is ∙ replied_hides r.result

  group_hides : (n : ℕ) (more : List ℕ) (left : Option (List ℕ)) (outcome : RequestOutcome) → GroupComesTo turn n more left outcome → is_shown outcome ≡ false
  group_hides n more left outcome (inl unasked) = unasked_hides n more left outcome unasked.1
  group_hides n more left outcome (inr asked) = run_hides (commands.Group asked.items) outcome asked.comes

  -- bytes are shown only by a plan to show them
  shown_only : (plan : Result RequestPlan RequestFault) (more : List ℕ) (left : Option (List ℕ)) (outcome : RequestOutcome)
      → RequestGives turn plan more left outcome → is_shown outcome ≡ true → shows plan ≡ true
  shown_only (Ok (ShowBody name)) more left outcome gives is = refl
  shown_only (Ok (ShowDocument doc)) more left outcome gives is = refl
  shown_only (Ok (Put name kind n waits)) more left outcome gives is = sym (ap is_shown gives.0.outcome_is ∙ replied_hides gives.0.result) ∙ is
  shown_only (Ok (Delete name)) more left outcome gives is = sym (run_hides (commands.Delete name) outcome gives.1) ∙ is
  shown_only (Ok Publish) more left outcome gives is = sym (run_hides commands.Publish outcome gives.1) ∙ is
  shown_only (Ok (Group n waits)) more left outcome gives is = sym (group_hides n more left outcome gives) ∙ is
  shown_only (Err reason) more left outcome gives is = sym (ap is_shown gives.1) ∙ is

  -- so the outcome of a request is one that its bytes ask for
  pub is_asked : (bytes : List ℕ) (read : HeadRead) (request : Request) → Asks bytes read (Some request) → (more : List ℕ) (left : Option (List ℕ)) (outcome : RequestOutcome)
      → RequestGives turn request.plan more left outcome → IsAsked (bytes ++ more) outcome
  is_asked bytes read request asks more left (shown kind text) gives =
      asked_to_see bytes more read request asks (shown_only request.plan more left (shown kind text) gives refl)
  is_asked bytes read request asks more left outcome gives = tt

-- The documents that requests ask for have paths.
use Rattle.std.proofs.Common.{◌≡◌, inl, inr, ℕ, Bool, true, false, List, refl, sym, subst, cond, Option, Some, None, Result, Ok, Err}
use Rattle.std.specs.Prelude.{bytes_eq, codes, drop, nat_eq, unwrap_or}
use Rattle.std.specs.List.{starts_with}
use Rattle.rs_record.specs.Name.{is_name}
use Rattle.rs_lists.specs.declared.doc.Doc.{Doc}
use Rattle.rs_caps.specs.Paths.{doc_of, HasCounts}
use Rattle.rs_http.proofs.FromBelow.{doc_of-exact}
use Rattle.rs_http.specs.declared.target.Place.{Place}
use Rattle.rs_http.specs.declared.target.Place.TheVariants.{Resource, Unlawful, Document, Publishing, Grouping, Nowhere}
use Rattle.rs_http.specs.declared.head.HeadRead.{HeadRead}
use Rattle.rs_http.specs.declared.head.HeadRead.TheVariants.{Whole, TooLong, Ended}
use Rattle.rs_http.specs.declared.request.RequestPlan.{RequestPlan}
use Rattle.rs_http.specs.declared.request.RequestPlan.TheVariants.{ShowBody, ShowDocument, Delete, Publish}
use Rattle.rs_http.specs.declared.request.RequestFault.{RequestFault}
use Rattle.rs_http.specs.declared.request.Request.{Request}
use Rattle.rs_http.specs.Fields.{Parts, head_parts, values_of}
use Rattle.rs_http.specs.Checks.{is_put, is_delete, stated_in, expects_word, put_plan, group_plan, resource_plan, plan_at, place_in, causes_of}
use Rattle.rs_http.specs.Requests.{IsPlanFor, Asks}
use Rattle.rs_http.specs.Targets.{path_of_target, resource_place, document_place, place_of}

-- a path can name every document that a request asks for
abbrev pub HasPath : Result RequestPlan RequestFault → Type 0
HasPath (Ok (ShowDocument doc)) = HasCounts doc
HasPath plan = Unit {0}

abbrev PlaceHas : Place → Type 0
PlaceHas (Document doc) = HasCounts doc
PlaceHas place = Unit {0}

place_either : (b : Bool) (one other : Place) → PlaceHas one → PlaceHas other → PlaceHas (cond b one other)
place_either true one other h k = h
place_either false one other h k = k

document_has : (path : List ℕ) (found : Option Doc) → doc_of path ≡ found → PlaceHas (document_place found)
document_has path None is = tt
document_has path (Some doc) is = (doc_of-exact path doc is).1

place_has : (path : List ℕ) → PlaceHas (place_of path)
place_has path =
    let last : Place = cond (bytes_eq path (codes "/group")) Grouping (document_place (doc_of path)) in
    let other : Place = cond (bytes_eq path (codes "/publish")) Publishing last in
    place_either (starts_with nat_eq path (codes "/resource/")) (resource_place (drop 10 path)) other
    (place_either (is_name (drop 10 path)) (Resource (drop 10 path)) Unlawful tt tt)
    (place_either (bytes_eq path (codes "/publish")) Publishing last tt
    (place_either (bytes_eq path (codes "/group")) Grouping (document_place (doc_of path)) tt (document_has path (doc_of path) refl)))

-- a request for a resource asks for no document
resource_has : (b c : Bool) (put : RequestPlan) (name : List ℕ) → HasPath (Ok put) → HasPath (Ok (cond b put (cond c (Delete name) (ShowBody name))))
resource_has true c put name h = h
resource_has false true put name h = tt
resource_has false false put name h = tt

asked_at : (place : Place) (p : Parts) (plan : RequestPlan) → PlaceHas place → plan_at place p ≡ Some plan → HasPath (Ok plan)
asked_at (Document doc) p plan h is = let same : ShowDocument doc ≡ plan = cc in subst (λ (q : RequestPlan). HasPath (Ok q)) same h
asked_at (Resource name) p plan h is =
    let same : resource_plan name p ≡ plan = cc in
    subst (λ (q : RequestPlan). HasPath (Ok q)) same
    (resource_has (is_put p.method) (is_delete p.method)
    (put_plan name (values_of (codes "content-type") p.fields) (unwrap_or (stated_in p) 0) (expects_word p)) name tt)
asked_at Publishing p plan h is = let same : Publish ≡ plan = cc in subst (λ (q : RequestPlan). HasPath (Ok q)) same tt
asked_at Grouping p plan h is =
    let same : group_plan (unwrap_or (stated_in p) 0) (expects_word p) ≡ plan = cc in subst (λ (q : RequestPlan). HasPath (Ok q)) same tt
asked_at Unlawful p plan h is = absurd cc
asked_at Nowhere p plan h is = absurd cc

planned_has : (p : Parts) (plan : Result RequestPlan RequestFault) → IsPlanFor (causes_of p) (plan_at (place_in p) p) plan → HasPath plan
planned_has p (Ok plan) is = asked_at (place_in p) p plan (place_has (path_of_target p.target)) is.1
planned_has p (Err reason) is = tt

-- a path can name the document that the bytes of a head ask for
pub asked_has : (bytes : List ℕ) (read : HeadRead) (request : Request) → Asks bytes read (Some request) → HasPath request.plan
asked_has bytes Whole request (inl bad) = subst (λ (r : Request). HasPath r.plan) (sym bad.1) tt
asked_has bytes Whole request (inr good) = planned_has (head_parts good.0) request.plan good.3.plan
asked_has bytes TooLong request is = subst (λ (r : Request). HasPath r.plan) (sym is) tt
asked_has bytes Ended request is = subst (λ (r : Request). HasPath r.plan) (sym is.1) tt

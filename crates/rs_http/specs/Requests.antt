-- The request that the bytes of a head ask for.
use Rattle.std.specs.Prelude.{◌≡◌, ◌⊎◌, ℕ, ◌<◌, Bool, false, List, [], length, codes, bytes_eq, Option, Some, None, Result, Ok, Err, unwrap_or}
use Rattle.httparse.specs.Grammar.{RequestHead, ReadsRequest, HasNoRequest}
use Rattle.rs_http.specs.declared.head.HeadRead.{HeadRead}
use Rattle.rs_http.specs.declared.head.HeadRead.TheVariants.{Whole, TooLong, Ended}
use Rattle.rs_http.specs.declared.target.Place.{Place}
use Rattle.rs_http.specs.declared.request.RequestFault.{RequestFault}
use Rattle.rs_http.specs.declared.request.RequestFault.TheVariants.{HeadTooLong, BadHead, Line}
use Rattle.rs_http.specs.declared.request.RequestPlan.{RequestPlan}
use Rattle.rs_http.specs.declared.request.RequestPlan.TheVariants.{ShowBody, Put, Delete}
use Rattle.rs_items.specs.declared.item.ItemFault.TheVariants.{NoMemory}
use Rattle.rs_http.specs.declared.request.Request.{Request}
use Rattle.rs_http.specs.Fields.{Parts, head_parts}
use Rattle.rs_http.specs.Checks.{Causes, first_fault, causes_of, put_head_causes, place_causes, place_in, put_plan, plan_at}

-- a plan of a resource has its name, which takes memory; no other plan takes any
abbrev pub TakesMemory : Option RequestPlan → Type 0
TakesMemory (Some (ShowBody name)) = Unit {0}
TakesMemory (Some (Put name kind n waits)) = Unit {0}
TakesMemory (Some (Delete name)) = Unit {0}
TakesMemory plan = ⊥

-- A request with these causes is refused for the first that applies, or has this plan. If no cause applies, there may
-- be no memory for a plan that takes memory.
abbrev pub IsPlanFor : Causes → Option RequestPlan → Result RequestPlan RequestFault → Type 0
IsPlanFor causes plan (Ok made) = (first_fault causes ≡ None) × (plan ≡ Some made)
IsPlanFor causes plan (Err fault) =
    (first_fault causes ≡ Some fault) ⊎ ((fault ≡ Line NoMemory) × (first_fault causes ≡ None) × TakesMemory plan)

-- the plan of a put to this name, by the length and the types that the fields state, and by whether the client expects
-- the word to go on
abbrev pub IsPutPlan : List ℕ → Option ℕ → List (List ℕ) → Bool → Result RequestPlan RequestFault → Type 0
IsPutPlan name stated kinds expects made =
    IsPlanFor (put_head_causes stated kinds) (Some (put_plan name kinds (unwrap_or stated 0) expects)) made

-- the plan of a request for this place, by the parts of its head
abbrev pub IsPlanAt : Place → Parts → Result RequestPlan RequestFault → Type 0
IsPlanAt place p made = IsPlanFor (place_causes place p) (plan_at place p) made

-- this head asks for this request: whether its method is HEAD, and its plan
pub record IsRequestOf (p : Parts) (request : Request) : Type 0 where
  pub is_head : request.is_head ≡ bytes_eq p.method (codes "HEAD")
  pub plan : IsPlanFor (causes_of p) (plan_at (place_in p) p) request.plan

-- a request that is refused before its head is known
abbrev pub refused_for : RequestFault → Request
refused_for fault = record { is_head = false; plan = Err fault }

-- the request that a head asks for, by the grammar of RFC 9112
abbrev pub AsksFor : List ℕ → Request → Type 0
AsksFor head request =
    (HasNoRequest head × (request ≡ refused_for BadHead))
    ⊎ ((h : RequestHead) × (after : List ℕ) × ReadsRequest head h after × IsRequestOf (head_parts h) request)

-- the request that the bytes at the front of an input ask for: no request, if no byte came
abbrev pub Asks : List ℕ → HeadRead → Option Request → Type 0
Asks bytes Whole (Some request) = AsksFor bytes request
Asks bytes TooLong (Some request) = request ≡ refused_for HeadTooLong
Asks bytes Ended (Some request) = (0 < length bytes) × (request ≡ refused_for BadHead)
Asks bytes Ended None = bytes ≡ []
Asks bytes read None = ⊥

-- A GET and a HEAD ask to see bytes, also after an empty line. A POST does not: its 200 is a reply.
use Rattle.std.proofs.Common.{◌≡◌, ℕ, false, List, [], ◌∷◌, ◌++◌, codes, Result, Ok, refl, subst, IsTrue}
use Rattle.httparse.specs.Ascii.{space}
use Rattle.httparse.specs.Grammar.{LineEnd, crlf, lf, print_blank}
use Rattle.rs_model.specs.declared.command.Command.{Command}
use Rattle.rs_model.specs.declared.command.Command.TheVariants as commands
use Rattle.rs_model.specs.declared.command.Item.TheVariants as items
use Rattle.rs_model.specs.declared.command.Reply.{Reply}
use Rattle.rs_store.specs.declared.refusal.Refusal.{Refusal}
use Rattle.rs_store.specs.declared.refusal.Refusal.TheVariants.{NotHeld}
use Rattle.rs_items.specs.declared.item.ItemFault.TheVariants as faults
use Rattle.rs_items.specs.Fields.{fields}
use Rattle.rs_items.specs.Items.{item_of_line}
use Rattle.rs_http.specs.declared.request.RequestFault.{RequestFault}
use Rattle.rs_http.specs.declared.request.RequestFault.TheVariants.{Line}
use Rattle.rs_http.specs.declared.status.StatusCode.TheVariants as statuses
use Rattle.rs_http.specs.Checks.{is_get}
use Rattle.rs_http.specs.Responses.{RequestOutcome, faulted, replied, shown, refused, fault_status, refusal_status, status_of}
use Rattle.rs_http.specs.declared.request.RequestPlan.TheVariants.{Group}
use Rattle.rs_http.specs.Told.{AsksToSee, IsAsked, AsksCommand}

pub get_asks : (rest : List ℕ) → AsksToSee (codes "GET " ++ rest)
get_asks rest = record { blank = []; method = codes "GET"; gets = refl; rest = rest; bytes_are = refl }

pub head_asks : (rest : List ℕ) → AsksToSee (codes "\r\nHEAD " ++ rest)
head_asks rest = record { blank = crlf ∷ []; method = codes "HEAD"; gets = refl; rest = rest; bytes_are = refl }

begins_otherwise : (blank : List LineEnd) (method rest more : List ℕ) → IsTrue (is_get method)
    → codes "POST " ++ more ≡ print_blank blank ++ method ++ space ∷ rest → ⊥
begins_otherwise (crlf ∷ blank) method rest more gets e = absurd cc
begins_otherwise (lf ∷ blank) method rest more gets e = absurd cc
begins_otherwise [] [] rest more gets e = absurd cc
begins_otherwise [] (b ∷ method) rest more gets e =
    let first : b ≡ 80 = cc in
    let no : IsTrue (is_get (80 ∷ method)) = subst (λ (n : ℕ). IsTrue (is_get (n ∷ method))) first gets in
    absurd cc

pub post_asks_not : (more : List ℕ) → AsksToSee (codes "POST " ++ more) → ⊥
post_asks_not more asks = begins_otherwise asks.blank asks.method asks.rest more asks.gets asks.bytes_are

-- 200 is the status of no fault and of no refusal
fault_is_no_ok : (fault : RequestFault) → fault_status fault ≡ statuses.Ok → ⊥
fault_is_no_ok (Line faults.NoMemory) is = absurd cc
fault_is_no_ok fault is = absurd cc

refusal_is_no_ok : (refusal : Refusal) → refusal_status refusal ≡ statuses.Ok → ⊥
refusal_is_no_ok NotHeld is = absurd cc
refusal_is_no_ok refusal is = absurd cc

pub post_is_told : (more : List ℕ) (outcome : RequestOutcome) → IsAsked (codes "POST " ++ more) outcome → status_of outcome ≡ statuses.Ok
    → (reply : Reply) × (outcome ≡ replied reply)
post_is_told more (replied reply) asked is = (reply, refl)
post_is_told more (shown kind bytes) asked is = absurd (post_asks_not more asked)
post_is_told more (faulted fault) asked is = absurd (fault_is_no_ok fault is)
post_is_told more (refused refusal) asked is = absurd (refusal_is_no_ok refusal is)

-- a group asks for its items if its whole body came, and for no command if a byte of it is missing
abbrev group_body : List ℕ
group_body = codes "delete a\n"

pub group_asks : (answer : Result Reply Refusal) → AsksCommand (Ok (Group 9 false)) group_body answer (commands.Group (items.Delete (codes "a") ∷ []))
unfolding item_of_line fields
group_asks answer = (refl, items.Delete (codes "a") ∷ [], refl, refl)

pub cut_group_asks_nothing : (answer : Result Reply Refusal) (command : Command) → AsksCommand (Ok (Group 10 false)) group_body answer command → ⊥
cut_group_asks_nothing answer command asks = let never = asks.0 in absurd cc

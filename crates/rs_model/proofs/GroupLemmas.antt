-- Groups are decided and done item by item.
use Rattle.std.proofs.Common.{◌≡◌, ℕ, suc, zero, ◌≤◌, List, [], ◌∷◌, ◌++◌, length, take, refl, sym, ap, ◌∙◌, arith, Bool, true, false, cond, Option, Some, None, Result, Ok, Err}
use Rattle.std.proofs.lemmas.Bool.Decides.{nat_tests}
use Rattle.std.proofs.lemmas.List.{length-take-le}
use Rattle.rs_model.specs.declared.command.Item.{Item}
use Rattle.rs_model.specs.declared.command.Item.TheVariants as single
use Rattle.rs_model.specs.declared.command.Command.{Command}
use Rattle.rs_model.specs.declared.command.Command.TheVariants.{Put, Delete, Publish, Group}
use Rattle.rs_model.specs.declared.command.Reply.{Reply}
use Rattle.rs_model.specs.declared.command.Reply.TheVariants.{Grouped}
use Rattle.rs_model.specs.declared.command.Refusal.{Refusal}
use Rattle.rs_model.specs.declared.command.Refusal.TheVariants.{BadGroup}
use Rattle.rs_model.specs.State.{Source}
use Rattle.rs_model.specs.Step.{first_cause, item_causes, items_causes, is_bad_group, refusal_of, moment_at, after_item, after_items, reply_to, accepted_unless, step}
use Rattle.rs_model.specs.Laws.{command_of, grouped_as, after_step, stepped_in_turn}
use Rattle.rs_model.proofs.ItemLemmas.{next_same, same_states, accepted_again}

-- the first of two refusals
abbrev pub first_of : Option Refusal → Option Refusal → Option Refusal
first_of None next = next
first_of (Some refusal) next = Some refusal

one_cause : (b : Bool) (x : Refusal) (all one next : Option Refusal) → all ≡ first_of one next → cond b (Some x) all ≡ first_of (cond b (Some x) one) next
one_cause true x all one next h = refl
one_cause false x all one next h = h

pub first_cause-append : (a b : List (Bool × Refusal)) → first_cause (a ++ b) ≡ first_of (first_cause a) (first_cause b)
first_cause-append [] b = refl
first_cause-append (c ∷ a) b = one_cause c.0 c.1 (first_cause (a ++ b)) (first_cause a) (first_cause b) (first_cause-append a b)

pub none_of : (one next : Option Refusal) → first_of one next ≡ None → (one ≡ None) × (next ≡ None)
none_of None next h = (refl, h)
none_of (Some refusal) next h = cc

-- of items that are accepted the first is, and so are the others after it
pub item_accepted : (s : Source) (item : Item) (items : List Item) (now : ℕ) → first_cause (items_causes s (item ∷ items) now) ≡ None
    → (first_cause (item_causes s item) ≡ None) × (first_cause (items_causes (after_item s item (moment_at s now)) items now) ≡ None)
item_accepted s item items now h =
    none_of (first_cause (item_causes s item)) (first_cause (items_causes (after_item s item (moment_at s now)) items now))
    (sym (first_cause-append (item_causes s item) (items_causes (after_item s item (moment_at s now)) items now)) ∙ h)

if_false : (b : Bool) (one next : Option Refusal) → b ≡ false → cond b one next ≡ next
if_false true one next h = cc
if_false false one next h = refl

if_true : (b : Bool) (one next : Option Refusal) → b ≡ true → cond b one next ≡ one
if_true true one next h = refl
if_true false one next h = cc

group_by : (b : Bool) (x : Refusal) (next : Option Refusal) → cond b (Some x) next ≡ None → (b ≡ false) × (next ≡ None)
group_by true x next h = cc
group_by false x next h = (refl, h)

-- an accepted group is not a bad group, and its items have no cause for a refusal
pub group_accepted : (s : Source) (items : List Item) (now : ℕ) → refusal_of s (Group items) now ≡ None
    → (is_bad_group items ≡ false) × (first_cause (items_causes s items now) ≡ None)
group_accepted s items now h = group_by (is_bad_group items) BadGroup (first_cause (items_causes s items now)) h

-- an item alone
item_step : (s : Source) (item : Item) (now : ℕ)
    → step s (command_of item) now
    ≡ accepted_unless (first_cause (item_causes s item)) (after_item s item (moment_at s now), reply_to s (command_of item) (moment_at s now))
item_step s (single.Put name kind bytes) now = refl
item_step s (single.Delete name) now = refl

-- the state, unless there is a refusal
abbrev state_unless : Option Refusal → Source → Result Source Refusal
state_unless None s = Ok s
state_unless (Some refusal) s = Err refusal

one_turn : (then : Source → Result Source Refusal) (one next : Option Refusal) (t : Source) (reply : Reply) (u : Source) → then t ≡ state_unless next u
    → after_step then (accepted_unless one (t, reply)) ≡ state_unless (first_of one next) u
one_turn then None next t reply u h = h
one_turn then (Some refusal) next t reply u h = refl

in_turn : (s : Source) (items : List Item) (now : ℕ) → stepped_in_turn s items now ≡ state_unless (first_cause (items_causes s items now)) (after_items s items now)
in_turn s [] now = refl
in_turn s (item ∷ items) now =
    let t : ℕ = moment_at s now in
    let next : Source = after_item s item t in
    ap (after_step (λ u. stepped_in_turn u items now)) (item_step s item now)
    ∙ one_turn (λ u. stepped_in_turn u items now) (first_cause (item_causes s item)) (first_cause (items_causes next items now)) next
    (reply_to s (command_of item) t) (after_items next items now) (in_turn next items now)
    ∙ ap (λ o. state_unless o (after_items next items now)) (sym (first_cause-append (item_causes s item) (items_causes next items now)))

answered : (o : Option Refusal) (n t : ℕ) (next : Source) → accepted_unless o (next, Grouped n t) ≡ grouped_as n t (state_unless o next)
answered None n t next = refl
answered (Some refusal) n t next = refl

pub group_steps : (s : Source) (items : List Item) (now : ℕ) → is_bad_group items ≡ false
    → step s (Group items) now ≡ grouped_as (length items) (moment_at s now) (stepped_in_turn s items now)
group_steps s items now h =
    let t : ℕ = moment_at s now in
    let o : Option Refusal = first_cause (items_causes s items now) in
    ap (λ p. accepted_unless p (after_items s items t, Grouped (length items) t)) (if_false (is_bad_group items) (Some BadGroup) o h)
    ∙ ap (λ u. accepted_unless o (u, Grouped (length items) t)) (same_states s items t now (accepted_again s now))
    ∙ answered o (length items) t (after_items s items now) ∙ ap (grouped_as (length items) t) (sym (in_turn s items now))

pub bad_refused : (s : Source) (items : List Item) (now : ℕ) → is_bad_group items ≡ true → step s (Group items) now ≡ Err BadGroup
bad_refused s items now h =
    let t : ℕ = moment_at s now in
    ap (λ p. accepted_unless p (after_items s items t, Grouped (length items) t))
    (if_true (is_bad_group items) (Some BadGroup) (first_cause (items_causes s items now)) h)

-- the first items of accepted ones
front_causes : (s : Source) (items : List Item) (now k : ℕ) → first_cause (items_causes s items now) ≡ None → first_cause (items_causes s (take k items) now) ≡ None
front_causes s [] now zero h = refl
front_causes s [] now (suc k) h = refl
front_causes s (item ∷ items) now zero h = refl
front_causes s (item ∷ items) now (suc k) h =
    let next : Source = after_item s item (moment_at s now) in
    let both = item_accepted s item items now h in
    first_cause-append (item_causes s item) (items_causes next (take k items) now)
    ∙ ap (λ o. first_of o (first_cause (items_causes next (take k items) now))) both.0 ∙ front_causes next items now k both.1

front_fits : (items : List Item) (k : ℕ) → is_bad_group items ≡ false → 1 ≤ k → k ≤ length items → is_bad_group (take k items) ≡ false
front_fits items k h low high = let count : length (take k items) ≡ k = length-take-le k items high in grind (arith, nat_tests)

pub front_accepted : (s : Source) (items : List Item) (now k : ℕ) → refusal_of s (Group items) now ≡ None
    → 1 ≤ k → k ≤ length items → refusal_of s (Group (take k items)) now ≡ None
front_accepted s items now k h low high =
    let whole = group_accepted s items now h in
    if_false (is_bad_group (take k items)) (Some BadGroup) (first_cause (items_causes s (take k items) now)) (front_fits items k whole.0 low high)
    ∙ front_causes s items now k whole.1

-- two moments at which a command would be accepted at the same one
same_causes : (s : Source) (items : List Item) (a b : ℕ) → moment_at s a ≡ moment_at s b → items_causes s items a ≡ items_causes s items b
same_causes s [] a b h = refl
same_causes s (item ∷ items) a b h =
    ap (λ l. item_causes s item ++ l)
    (same_causes (after_item s item (moment_at s a)) items a b (next_same s item a b h)
    ∙ ap (λ t. items_causes (after_item s item t) items b) h)

pub refused_alike : (s : Source) (command : Command) (now : ℕ) → refusal_of s command (moment_at s now) ≡ refusal_of s command now
refused_alike s (Put name kind bytes) now = refl
refused_alike s (Delete name) now = refl
refused_alike s Publish now = refl
refused_alike s (Group items) now =
    ap (λ causes. first_cause ((is_bad_group items, BadGroup) ∷ causes)) (same_causes s items (moment_at s now) now (accepted_again s now))

pub groups_come : (s : Source) (items : List Item) (now : ℕ)
    → (refusal_of s (Group items) (moment_at s now) ≡ refusal_of s (Group items) now)
    × (after_items s items (moment_at s now) ≡ after_items s items now)
groups_come s items now = (refused_alike s (Group items) now, same_states s items (moment_at s now) now (accepted_again s now))

-- The changes that a walk of commands records, and its catalogue between two commands and within one.
use Rattle.std.proofs.Common.{◌≡◌, ◌<◌, ◌≤◌, ◌+◌, ◌-◌, ℕ, zero, suc, List, [], ◌∷◌, ◌++◌, length, take, drop, map, refl, sym, ◌∙◌, ap, subst, arith, append_assoc, length-append, Option, Some, None}
use Rattle.std.proofs.Math.Seq.{take-append-add}
use Rattle.std.proofs.lemmas.List.{take_all, take-append-le}
use Rattle.rs_record.specs.declared.change.Change.{Change}
use Rattle.rs_model.specs.State.{Source, start_of, entries}
use Rattle.rs_model.specs.Step.{step, state_after, fold_of, mirror_of, mirror_step, refusal_of, accepted_unless, next_state, reply_to, moment_at, after_item, after_items}
use Rattle.rs_model.specs.Names.{Names}
use Rattle.rs_model.specs.Walk.{walk_of, state_at, recorded, count_at, catalogue}
use Rattle.rs_model.specs.WalkLaws.{HeldIsCatalogued}
use Rattle.rs_model.specs.declared.command.Item.{Item}
use Rattle.rs_model.specs.declared.command.Item.TheVariants as single
use Rattle.rs_model.specs.declared.command.Command.{Command}
use Rattle.rs_model.specs.declared.command.Command.TheVariants.{Put, Delete, Publish, Group}
use Rattle.rs_model.specs.declared.command.Reply.{Reply}
use Rattle.rs_model.specs.declared.command.Refusal as model
use Rattle.rs_model.specs.declared.event.Event.{Event}
use Rattle.rs_model.specs.declared.event.Event.TheVariants.{Tried}
use Rattle.rs_model.specs.declared.value.Entry.{Entry}
use Rattle.rs_recovery.specs.Mirrored.{changes_made}
use Rattle.rs_recovery.proofs.Below.{Commands}
use Rattle.rs_recovery.proofs.Sessions.{fold_append}

-- a command as an event of a walk
abbrev pub tried : Command × ℕ → Event
tried c = Tried c.0 c.1

tried_walk : (s : Source) (commands : Commands) (n : ℕ) → state_at s (map tried commands) n ≡ fold_of s (take n commands)
tried_walk s commands zero = refl
tried_walk s [] (suc n) = refl
tried_walk s (c ∷ commands) (suc n) = tried_walk (state_after s (step s c.0 c.1)) commands n

-- the same after other commands
pub tried_behind : (s : Source) (before whole : Commands) (n : ℕ) → state_at s (map tried (before ++ whole)) (length before + n) ≡ fold_of (fold_of s before) (take n whole)
tried_behind s before whole n =
    tried_walk s (before ++ whole) (length before + n)
    ∙ ap (fold_of s) (take-append-add before whole n) ∙ fold_append s before (take n whole)

tried_all : (s : Source) (commands : Commands) → walk_of s (map tried commands) ≡ fold_of s commands
tried_all s [] = refl
tried_all s (c ∷ commands) = tried_all (state_after s (step s c.0 c.1)) commands

-- the first events are the first commands
tried_first : (commands : Commands) (n : ℕ) → take n (map tried commands) ≡ map tried (take n commands)
tried_first commands zero = refl
tried_first [] (suc n) = refl
tried_first (c ∷ commands) (suc n) = ap (λ events. tried c ∷ events) (tried_first commands n)

-- no command changes the moment of formatting
item_start : (s : Source) (item : Item) (t : ℕ) → (after_item s item t).start ≡ s.start
item_start s (single.Put name kind bytes) t = refl
item_start s (single.Delete name) t = refl

items_start : (s : Source) (items : List Item) (now : ℕ) → (after_items s items now).start ≡ s.start
items_start s [] now = refl
items_start s (item ∷ items) now =
    let t = moment_at s now in
    items_start (after_item s item t) items now ∙ item_start s item t

next_start : (s : Source) (command : Command) (t : ℕ) → (next_state s command t).start ≡ s.start
next_start s (Put name kind bytes) t = refl
next_start s (Delete name) t = refl
next_start s Publish t = refl
next_start s (Group items) t = items_start s items t

step_start : (s : Source) (o : Option model.Refusal) (next : Source × Reply) → next.0.start ≡ s.start → (state_after s (accepted_unless o next)).start ≡ s.start
step_start s None next is = is
step_start s (Some refusal) next is = refl

pub fold_start : (s : Source) (commands : Commands) → (fold_of s commands).start ≡ s.start
fold_start s [] = refl
fold_start s (c ∷ commands) =
    let t = moment_at s c.1 in
    fold_start (state_after s (step s c.0 c.1)) commands
    ∙ step_start s (refusal_of s c.0 c.1) (next_state s c.0 t, reply_to s c.0 t) (next_start s c.0 t)

-- the changes that commands record, and those of more commands after them
recorded-append : (s : Source) (first more : Commands) → recorded s (map tried (first ++ more)) ≡ recorded s (map tried first) ++ recorded (fold_of s first) (map tried more)
recorded-append s [] more = refl
recorded-append s (c ∷ first) more =
    let t : Source = state_after s (step s c.0 c.1) in
    let made : List Change = changes_made s c in
    ap (λ l. made ++ l) (recorded-append t first more)
    ∙ sym (append_assoc made (recorded t (map tried first)) (recorded (fold_of t first) (map tried more)))

mirror_append : (m : Names Entry) (at : ℕ) (first more : List Change) → mirror_of m at (first ++ more) ≡ mirror_of (mirror_of m at first) at more
mirror_append m at [] more = refl
mirror_append m at (c ∷ first) more = mirror_append (mirror_step at c m) at first more

-- all of a front, and the first elements after it
front_and_more : {A : Type 0} (front next rest : List A) (n : ℕ) → length front ≤ n → n < length (front ++ (next ++ []))
    → (n - length front < length next) × (take n (front ++ (next ++ rest)) ≡ front ++ take (n - length front) next)
front_and_more {A} front next rest n low high =
    let k : ℕ = n - length front in
    let is : n ≡ length front + k = omega (arith, low) in
    let few : k < length next = omega (arith, low, high, length-append front (next ++ []), length-append next []) in
    let within : k ≤ length next = omega (arith, few) in
    (few, ap (λ m. take m (front ++ (next ++ rest))) is ∙ take-append-add front (next ++ rest) k ∙ ap (λ l. front ++ l) (take-append-le k next rest within))

-- Within a command the catalogue has the resources held before it, followed by the first of the changes that it makes.
within : HeldIsCatalogued → (base : List ℕ) (limit moment : ℕ) (first rest : Commands) (c : Command × ℕ) (n : ℕ)
    → let s = start_of base limit moment in
    let k = n - length (recorded s (map tried first)) in
    length (recorded s (map tried first)) ≤ n → n < length (recorded s (map tried (first ++ c ∷ [])))
    → (k < length (changes_made (fold_of s first) c))
    × (catalogue s (map tried (first ++ c ∷ rest)) n ≡ mirror_of (entries (fold_of s first).held) s.start (take k (changes_made (fold_of s first) c)))
within catalogued base limit moment first rest c n low high =
    let s : Source = start_of base limit moment in
    let t : Source = fold_of s first in
    let front : List Change = recorded s (map tried first) in
    let made : List Change = changes_made t c in
    let later : List Change = recorded (state_after t (step t c.0 c.1)) (map tried rest) in
    let found = front_and_more front made later n low (subst (λ l. n < length l) (recorded-append s first (c ∷ [])) high) in
    let k : ℕ = n - length front in
    let these : take n (recorded s (map tried (first ++ c ∷ rest))) ≡ front ++ take k made = ap (take n) (recorded-append s first (c ∷ rest)) ∙ found.1 in
    let held : mirror_of [] s.start front ≡ entries t.held =
    sym (catalogued base limit moment (map tried first) ∙ ap (mirror_of [] s.start) (take_all (length front) front (omega arith)))
    ∙ ap (λ x. entries x.held) (tried_all s first) in
    (found.0, ap (mirror_of [] s.start) these ∙ mirror_append [] s.start front (take k made) ∙ ap (λ m. mirror_of m s.start (take k made)) held)

-- the element of a list at a place
pub split_at : {A : Type 0} (n : ℕ) (xs : List A) → n < length xs → (x : A) × (take (suc n) xs ≡ take n xs ++ x ∷ []) × (take n xs ++ x ∷ drop (suc n) xs ≡ xs)
split_at n [] less = absurd (omega (arith, less))
split_at zero (x ∷ xs) less = (x, refl, refl)
split_at (suc n) (x ∷ xs) less = let at = split_at n xs (omega (arith, less)) in (at.0, ap (λ l. x ∷ l) at.1, ap (λ l. x ∷ l) at.2)

-- The same at a place of some commands after others.
pub within_next : HeldIsCatalogued → (base : List ℕ) (limit moment : ℕ) (before whole : Commands) (j n : ℕ) (below : j < length whole)
    → let s = start_of base limit moment in
    let start = fold_of s before in
    let events = map tried (before ++ whole) in
    let c = (split_at j whole below).0 in
    let k = n - count_at s events (length before + j) in
    let made = changes_made (fold_of start (take j whole)) c in
    count_at s events (length before + j) ≤ n → n < count_at s events (suc (length before + j))
    → (k < length made) × (catalogue s events n ≡ mirror_of (entries (fold_of start (take j whole)).held) start.start (take k made))
within_next catalogued base limit moment before whole j n below low high =
    let s : Source = start_of base limit moment in
    let start : Source = fold_of s before in
    let at = split_at j whole below in
    let c : Command × ℕ = at.0 in
    let first : Commands = before ++ take j whole in
    let rest : Commands = drop (suc j) whole in
    let events : List Event = map tried (before ++ whole) in
    let p : ℕ = length before + j in
    let front : take p events ≡ map tried first = tried_first (before ++ whole) p ∙ ap (map tried) (take-append-add before whole j) in
    let one : before ++ take (suc j) whole ≡ first ++ c ∷ [] = ap (λ l. before ++ l) at.1 ∙ sym (append_assoc before (take j whole) (c ∷ [])) in
    let step_on : suc p ≡ length before + suc j = omega arith in
    let more : take (suc p) events ≡ map tried (first ++ c ∷ []) =
    ap (λ m. take m events) step_on ∙ tried_first (before ++ whole) (length before + suc j) ∙ ap (map tried) (take-append-add before whole (suc j) ∙ one) in
    let all : events ≡ map tried (first ++ c ∷ rest) =
    ap (λ l. map tried (before ++ l)) (sym at.2) ∙ ap (map tried) (sym (append_assoc before (take j whole) (c ∷ rest))) in
    let found = within catalogued base limit moment first rest c n
    (subst (λ l. length (recorded s l) ≤ n) front low) (subst (λ l. n < length (recorded s l)) more high) in
    let state : fold_of s first ≡ fold_of start (take j whole) = fold_append s before (take j whole) in
    let count : length (recorded s (map tried first)) ≡ count_at s events p = ap (λ l. length (recorded s l)) (sym front) in
    let So : Source → ℕ → ℕ → Type 0 =
    λ t from m. (n - m < length (changes_made t c)) × (catalogue s events n ≡ mirror_of (entries t.held) from (take (n - m) (changes_made t c))) in
    let here : So (fold_of s first) s.start (length (recorded s (map tried first))) =
    (found.0, ap (λ l. catalogue s l n) all ∙ found.1) in
    subst (λ m. So (fold_of start (take j whole)) start.start m) count
    (subst (λ from. So (fold_of start (take j whole)) from (length (recorded s (map tried first)))) (sym (fold_start s before))
    (subst (λ t. So t s.start (length (recorded s (map tried first)))) state here))

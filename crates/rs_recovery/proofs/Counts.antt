-- The count of a state, which every accepted command raises, so that an image represents only one number of commands.
use Rattle.std.proofs.Common.{◌≡◌, inl, inr, ℕ, zero, suc, ◌+◌, ◌-◌, ◌*◌, ◌<◌, ◌≤◌, Bool, true, false, ◌||◌, List, [], ◌∷◌, ◌++◌, length, take, drop, refl, sym, ap, subst, arith, cond, Option, Some, None, Result, Ok, Err, div-mul-le_self}
use Rattle.std.specs.Prelude.{nat_le, MatchOption}
use Rattle.std.proofs.lemmas.Bool.{cases_lt}
use Rattle.std.proofs.lemmas.List.{length-append, length-drop}
use Rattle.rs_disk.specs.Medium.{DiskState}
use Rattle.rs_record.specs.Changes.{deleted}
use Rattle.rs_record.specs.declared.change.Change.{Change}
use Rattle.rs_model.specs.State.{Source, facts_of}
use Rattle.rs_model.specs.Step.{step, state_after, fold_of, refusal_of, accepted_unless, next_state, reply_to, moment_at, put_change, passed_by, dropped_parts, dropped_changes, after_item, after_items}
use Rattle.rs_model.specs.declared.command.Item.{Item}
use Rattle.rs_model.specs.declared.command.Item.TheVariants as single
use Rattle.rs_model.specs.declared.command.Command.{Command}
use Rattle.rs_model.specs.declared.command.Command.TheVariants.{Put, Delete, Publish, Group}
use Rattle.rs_model.specs.declared.command.Reply.{Reply}
use Rattle.rs_model.specs.declared.command.Refusal as model
use Rattle.rs_model.specs.declared.command.Refusal.TheVariants as decides
use Rattle.rs_image.specs.StateOfImage.{StandsFor}
use Rattle.rs_store.specs.declared.refusal.Refusal.{Refusal}
use Rattle.rs_store.specs.declared.refusal.Refusal.TheVariants.{Device}
use Rattle.rs_store.specs.Refusals.{named_as}
use Rattle.rs_store.specs.declared.running.Ack.{Ack}
use Rattle.rs_store.specs.Counted.{is_accepted, is_in_doubt, answered, counted_commands, begun}
use Rattle.rs_store.specs.Runs.{IsBeyondModel, MayAnswer, Condition, Holding, condition_after, AreAnswered}
use Rattle.rs_image.specs.Laws.{StandsOnce}
use Rattle.rs_recovery.proofs.Below.{Commands, Acks, one, counts_alone}
use Rattle.rs_recovery.proofs.FromBelow.{all_closed}

-- the count: dropped changes, kept changes and publications
pub behind : Source → ℕ
behind s = s.first * s.limit + length s.changes + s.number

add_one : (gone a b n : ℕ) → a ≡ b + 1 → gone + a + n ≡ gone + b + n + 1
add_one gone a b n more = omega (arith, more)

-- one more change
change_more : (s : Source) (change : Change) → s.first * s.limit + length (s.changes ++ change ∷ []) + s.number ≡ s.first * s.limit + length s.changes + s.number + 1
change_more s change =
    add_one (s.first * s.limit) (length (s.changes ++ change ∷ [])) (length s.changes) s.number (length-append s.changes (change ∷ []))

-- the changes that are passed by a moment
passed_if : (b : Bool) (n k : ℕ) → n ≤ k → cond b (suc n) 0 ≤ suc k
passed_if true n k h = omega arith
passed_if false n k h = omega arith

passed_within : (moment : ℕ) (changes : List Change) → passed_by moment changes ≤ length changes
passed_within moment [] = omega arith
passed_within moment (c ∷ changes) =
    passed_if (nat_le c.moment moment) (passed_by moment changes) (length changes) (passed_within moment changes)

dropped_within : (s : Source) → dropped_changes s ≤ length s.changes
dropped_within s =
    omega (arith, div-mul-le_self (passed_by s.at s.changes) s.limit, passed_within s.at s.changes)

-- the parts count the changes that a publication drops
one_further : (first parts limit kept left n : ℕ) → parts * limit ≤ kept → left ≡ kept - parts * limit
    → (first + parts) * limit + left + (n + 1) ≡ first * limit + kept + n + 1
one_further first parts limit kept left n within rest = grind arith

-- an item
item_more : (s : Source) (item : Item) (t : ℕ) → behind (after_item s item t) ≡ behind s + 1
unfolding behind
item_more s (single.Put name kind bytes) t = change_more s (put_change s name (facts_of kind bytes) t)
item_more s (single.Delete name) t = change_more s (deleted name t)

-- items one after another
items_more : (s : Source) (items : List Item) (now : ℕ) → behind (after_items s items now) ≡ behind s + length items
items_more s [] now = omega arith
items_more s (item ∷ items) now =
    let t = moment_at s now in
    omega (arith, item_more s item t, items_more (after_item s item t) items now)

-- a publication
publication_more : (s : Source) (t : ℕ) → behind (next_state s Publish t) ≡ behind s + 1
unfolding behind
publication_more s t =
    one_further s.first (dropped_parts s) s.limit (length s.changes) (length (drop (dropped_changes s) s.changes)) s.number
    (dropped_within s) (length-drop (dropped_changes s) s.changes)

-- every accepted command raises the count: a group by its number of items, at least one
next_more : (s : Source) (command : Command) (now t : ℕ) → refusal_of s command now ≡ None → behind s < behind (next_state s command t)
next_more s (Put name kind bytes) now t none = omega (arith, item_more s (single.Put name kind bytes) t)
next_more s (Delete name) now t none = omega (arith, item_more s (single.Delete name) t)
next_more s Publish now t none = omega (arith, publication_more s t)
next_more s (Group []) now t none = absurd cc
next_more s (Group (item ∷ items)) now t none = omega (arith, items_more s (item ∷ items) t)

-- an accepted command
one_more : (s : Source) (command : Command) (now : ℕ) → refusal_of s command now ≡ None → behind s < behind (state_after s (step s command now))
one_more s command now none =
    let t = moment_at s now in
    subst (λ (o : Option model.Refusal). behind s < behind (state_after s (accepted_unless o (next_state s command t, reply_to s command t)))) (sym none) (next_more s command now t none)

unrefused : (o : Option model.Refusal) (next made : Source × Reply) → accepted_unless o next ≡ Ok made → o ≡ None
unrefused None next made is = refl
unrefused (Some refusal) next made is = absurd cc

-- the count rises with each of these commands
abbrev Rises : Source → Commands → Type 0
Rises s commands = (j k : ℕ) → j < k → k ≤ length commands → behind (fold_of s (take j commands)) < behind (fold_of s (take k commands))

none_rise : (s : Source) → Rises s []
none_rise s j k less most = absurd (omega (arith, less, most))

-- if it rises, the count is least before the commands
rises_from : (s : Source) (commands : Commands) (k : ℕ) → Rises s commands → k ≤ length commands → behind s ≤ behind (fold_of s (take k commands))
rises_from s commands zero rises most = omega arith
rises_from s commands (suc k) rises most = omega (arith, rises zero (suc k) (omega arith) most)

-- one command before them
one_before : (s : Source) (c : Command × ℕ) (commands : Commands) → behind s < behind (state_after s (step s c.0 c.1))
    → Rises (state_after s (step s c.0 c.1)) commands → Rises s (c ∷ commands)
one_before s c commands more rises j zero less most = absurd (omega (arith, less))
one_before s c commands more rises zero (suc k) less most =
    let within : k ≤ length commands = omega (arith, most) in
    omega (arith, more, rises_from (state_after s (step s c.0 c.1)) commands k rises within)
one_before s c commands more rises (suc j) (suc k) less most = rises j k (omega (arith, less)) (omega (arith, most))

-- if it rises, two numbers of commands that lead to the same count are equal
one_alone : (s : Source) (commands : Commands) (j k : ℕ) → Rises s commands → j ≤ length commands → k ≤ length commands
    → behind (fold_of s (take j commands)) ≡ behind (fold_of s (take k commands)) → k ≡ j
one_alone s commands j k rises first second same = elim (cases_lt j k) [
  | inl less ↦ absurd (omega (arith, same, rises j k less second))
  | inr most ↦ elim (cases_lt k j) [
    | inl less ↦ absurd (omega (arith, same, rises k j less first))
    | inr least ↦ omega (arith, most, least)
  ]
]

-- no more commands have begun than count
doubt_or_ok : (a : Ack) → one (is_accepted a || is_in_doubt a) ≤ one (is_accepted a) + one (is_in_doubt a)
doubt_or_ok a = by_two (is_accepted a) (is_in_doubt a)
  where
    by_two : (b d : Bool) → one (b || d) ≤ one b + one d
    by_two true d = omega arith
    by_two false d = omega arith

pub length_answered : (test : Ack → Bool) (c : Command × ℕ) (cs : Commands) (a : Ack) (acks : Acks) → length (answered test (c ∷ cs) (a ∷ acks)) ≡ one (test a) + length (answered test cs acks)
length_answered test c cs a acks = elim (test a) as (λ b. length (cond b (c ∷ answered test cs acks) (answered test cs acks)) ≡ one b + length (answered test cs acks)) [
  | true ↦ omega arith
  | false ↦ omega arith
]

begun_further : (b : Bool) (n : ℕ) → cond b n 0 ≤ n
begun_further true n = omega arith
begun_further false n = omega arith

pub begun_counts : (m : ℕ) (cs : Commands) (acks : Acks) → length cs ≡ length acks → begun m acks ≤ length (counted_commands cs acks)
begun_counts m [] [] same = omega arith
begun_counts m (c ∷ cs) (a ∷ acks) same =
    let rest : begun m acks ≤ length (counted_commands cs acks) = begun_counts m cs acks (omega (arith, same)) in
    let both = length-append (answered is_accepted cs acks) (answered is_in_doubt cs acks) in
    let all = length-append (answered is_accepted (c ∷ cs) (a ∷ acks)) (answered is_in_doubt (c ∷ cs) (a ∷ acks)) in
    let oks = length_answered is_accepted c cs a acks in
    let doubts = length_answered is_in_doubt c cs a acks in
    omega (arith, rest, both, all, oks, doubts, doubt_or_ok a, begun_further (nat_le a.at_call m) (begun m acks))
begun_counts m [] (a ∷ acks) same = absurd (omega (arith, same))
begun_counts m (c ∷ cs) [] same = absurd (omega (arith, same))

-- every command has an answer
pub answered_length : (old : DiskState) (is : Condition) (cs : Commands) (acks : Acks) (new : DiskState) → AreAnswered old is cs acks new → length cs ≡ length acks
answered_length old is [] [] new all = refl
answered_length old is (c ∷ cs) (a ∷ acks) new all =
    let more : length cs ≡ length acks = answered_length all.0 (condition_after is c a.reply) cs acks new all.2 in
    omega (arith, more)
answered_length old is cs acks new all = absurd all

-- a command that may be answered Device is one that the model accepts
named_otherwise : (r : model.Refusal) → Device ≡ named_as r → ⊥
named_otherwise decides.BadGroup is = cc
named_otherwise decides.TooLong is = cc
named_otherwise decides.NotHeld is = cc
named_otherwise decides.TooManyResources is = cc
named_otherwise decides.TooManyChanges is = cc
named_otherwise decides.Exhausted is = cc

pub accepted_in_doubt : (o : Option model.Refusal) → MatchOption o (IsBeyondModel Device) (λ r. Device ≡ named_as r) → o ≡ None
accepted_in_doubt None may = refl
accepted_in_doubt (Some r) may = absurd (named_otherwise r may)

-- the count of the state rises with every counted command
pub counted_rise : (s : Source) (old : DiskState) (cs : Commands) (acks : Acks) (new : DiskState) → AreAnswered old (Holding s) cs acks new
    → Rises s (counted_commands cs acks)
counted_rise s old [] [] new all = none_rise s
counted_rise s old (c ∷ cs) (a ∷ acks) new all = after a.reply all.1.reply all.2 (λ t rest. counted_rise t all.0 cs acks new rest)
  where
    counted_with : Result Reply Refusal → Commands
    counted_with reply = counted_commands (c ∷ cs) (record { reply = reply; at_call = a.at_call } ∷ acks)

    next : Source
    next = state_after s (step s c.0 c.1)

    after : (reply : Result Reply Refusal) → MayAnswer s c.0 c.1 reply → AreAnswered all.0 (condition_after (Holding s) c reply) cs acks new
        → ((t : Source) → AreAnswered all.0 (Holding t) cs acks new → Rises t (counted_commands cs acks)) → Rises s (counted_with reply)
    after (Ok reply) may rest on =
        let none = unrefused (refusal_of s c.0 c.1) (next_state s c.0 (moment_at s c.1), reply_to s c.0 (moment_at s c.1)) (may.0, reply) may.1 in
        one_before s c (counted_commands cs acks) (one_more s c.0 c.1 none) (on next rest)
    after (Err Device) may rest on =
        let closed = all_closed all.0 s next cs acks new rest in
        let more = one_more s c.0 c.1 (accepted_in_doubt (refusal_of s c.0 c.1) may) in
        subst (Rises s) (sym (counts_alone c cs a.at_call acks closed)) (one_before s c [] more (none_rise next))
    after (Err refusal) may rest on = on s rest
counted_rise s old cs acks new all = absurd all

-- an image represents only one number of a session's counted commands
pub one_number : StandsOnce → (s : Source) (old : DiskState) (cs : Commands) (acks : Acks) (new : DiskState) → AreAnswered old (Holding s) cs acks new → (m : ℕ) (image : List ℕ) (j k : ℕ)
    → j ≤ begun m acks → k ≤ begun m acks → StandsFor image (fold_of s (take j (counted_commands cs acks))) → StandsFor image (fold_of s (take k (counted_commands cs acks))) → k ≡ j
one_number once s old cs acks new all m image j k most_j most_k stands also =
    let counted : Commands = counted_commands cs acks in
    let most = begun_counts m cs acks (answered_length old (Holding s) cs acks new all) in
    let same : fold_of s (take j counted) ≡ fold_of s (take k counted) = once image (fold_of s (take j counted)) (fold_of s (take k counted)) stands also in
    one_alone s counted j k (counted_rise s old cs acks new all) (omega (arith, most, most_j)) (omega (arith, most, most_k)) (ap behind same)

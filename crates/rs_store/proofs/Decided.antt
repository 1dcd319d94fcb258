-- The decisions of a source on commands without memory or the disk.
use Rattle.std.proofs.Common.{true≢false, ◌≡◌, ◌<◌, ◌≤◌, ℕ, Bool, true, false, ◌&&◌, nat_le, nat_lt, List, [], ◌∷◌, ◌++◌, length, refl, arith, Option, Some, None, Result, if◌then◌else◌}
use Rattle.std.specs.Prelude.{is_none}
use Rattle.std.proofs.lemmas.Bool.Decides.{nat_tests}
use Rattle.rs_record.specs.Limits.{longest_body}
use Rattle.rs_model.specs.Names.{value_of}
use Rattle.rs_model.specs.State.{Source, most_resources}
use Rattle.rs_model.specs.Step.{first_cause, has_all_changes, item_causes, items_causes, after_item, moment_at, is_bad_group, is_out_of_moments, refusal_of}
use Rattle.rs_model.specs.declared.command.Item.{Item}
use Rattle.rs_model.specs.declared.command.Item.TheVariants as single
use Rattle.rs_model.specs.declared.command.Command.TheVariants.{Group}
use Rattle.rs_model.specs.declared.command.Refusal.{Refusal}
use Rattle.rs_model.specs.declared.command.Refusal.TheVariants.{BadGroup, TooLong, NotHeld, TooManyResources, TooManyChanges, Exhausted}
use Rattle.rs_store.specs.declared.refusal.Refusal.{Refusal as Refused}
use Rattle.rs_store.specs.declared.refusal.Refusal.TheVariants.{Closed}
use Rattle.rs_store.specs.Refusals.{or_spent}
use Rattle.rs_store.specs.Answered.{moment_unless}

-- A put that is neither too long nor one resource too many is decided as a change.
pub change_is_decided : (closed long full : Bool) (causes : List (Bool × Refusal)) (spent : Bool) (m : ℕ) (answer : Result ℕ Refused) → closed ≡ false → long ≡ false → full ≡ false
    → answer ≡ moment_unless (or_spent (first_cause causes) spent) m
    → answer ≡ moment_unless (if closed then Some Closed else or_spent (first_cause ((long, TooLong) ∷ (full, TooManyResources) ∷ causes)) spent) m
change_is_decided true long full causes spent m answer still short few given = absurd (true≢false still)
change_is_decided false true full causes spent m answer still short few given = absurd (true≢false short)
change_is_decided false false true causes spent m answer still short few given = absurd (true≢false few)
change_is_decided false false false causes spent m answer still short few given = given

pub and_none : (a b : Bool) → b ≡ false → (a && b) ≡ false
and_none true b none = none
and_none false b none = refl

pub is_short : (n m : ℕ) → n ≡ m → m ≤ longest_body → nat_lt longest_body n ≡ false
is_short n m is le = grind (arith, nat_tests)

pub are_few : (n : ℕ) → n < most_resources → nat_le most_resources n ≡ false
are_few n lt = grind (arith, nat_tests)

-- Where a group is accepted, a moment is left.
last_of_four : (a b c d : Bool) (p q r t : Refusal) (causes : List (Bool × Refusal)) → first_cause ((a, p) ∷ (b, q) ∷ (c, r) ∷ (d, t) ∷ causes) ≡ None → d ≡ false
last_of_four true b c d p q r t causes is = absurd cc
last_of_four false true c d p q r t causes is = absurd cc
last_of_four false false true d p q r t causes is = absurd cc
last_of_four false false false true p q r t causes is = absurd cc
last_of_four false false false false p q r t causes is = refl

first_is_left : (s : Source) (item : Item) (causes : List (Bool × Refusal)) → first_cause (item_causes s item ++ causes) ≡ None → is_out_of_moments s ≡ false
first_is_left s (single.Put name kind bytes) causes is =
    last_of_four (nat_lt longest_body (length bytes)) (is_none (value_of name s.held) && nat_le most_resources (length s.held)) (has_all_changes s) (is_out_of_moments s)
    TooLong TooManyResources TooManyChanges Exhausted causes is
first_is_left s (single.Delete name) causes is =
    last_of_four false (is_none (value_of name s.held)) (has_all_changes s) (is_out_of_moments s) TooLong NotHeld TooManyChanges Exhausted causes is

behind_first : (b : Bool) (r : Refusal) (causes : List (Bool × Refusal)) → first_cause ((b, r) ∷ causes) ≡ None → first_cause causes ≡ None
behind_first true r causes is = absurd cc
behind_first false r causes is = is

pub moment_is_left : (s : Source) (items : List Item) (now : ℕ) → refusal_of s (Group items) now ≡ None → is_out_of_moments s ≡ false
moment_is_left s [] now is = absurd cc
moment_is_left s (item ∷ items) now is =
    let later = items_causes (after_item s item (moment_at s now)) items now in
    first_is_left s item later (behind_first (is_bad_group (item ∷ items)) BadGroup (item_causes s item ++ later) is)

-- A group that the model accepts in a state with a moment left is decided by the generation.
pub left_is_decided : (closed : Bool) (o : Option Refusal) (out spent : Bool) (m : ℕ) (answer : Result ℕ Refused) → closed ≡ false → o ≡ None → out ≡ false
    → answer ≡ moment_unless (or_spent (first_cause ((out, Exhausted) ∷ [])) spent) m → answer ≡ moment_unless (if closed then Some Closed else or_spent o spent) m
left_is_decided true o out spent m answer still none left given = absurd (true≢false still)
left_is_decided false (Some r) out spent m answer still none left given = absurd cc
left_is_decided false None true spent m answer still none left given = absurd (true≢false left)
left_is_decided false None false spent m answer still none left given = given

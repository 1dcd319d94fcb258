-- Room for the additions of an accepted command.
use Rattle.std.proofs.Common.{◌≡◌, ℕ, suc, ◌+◌, ◌≤◌, ◌<◌, List, [], ◌∷◌, length, Bool, true, false, cond, refl, ap, arith, Option, Some, None, nat_le, nat_lt}
use Rattle.std.specs.Prelude.{is_some, is_none, ◌&&◌}
use Rattle.std.specs.List.{AllByRecursion}
use Rattle.std.proofs.lemmas.Bool.Decides.{nat_tests}
use Rattle.std.specs.declared.cmp.Ordering.{Ordering}
use Rattle.std.specs.declared.cmp.Ordering.TheVariants.{Less, Equal, Greater}
use Rattle.rs_model.specs.declared.command.Refusal.{Refusal}
use Rattle.rs_model.specs.Names.{Names, by_bytes, by_order, value_of, bind, unbind}
use Rattle.rs_model.specs.declared.value.Held.{Held}
use Rattle.rs_model.specs.State.{Source, entries}
use Rattle.rs_model.specs.Step.{first_cause, put_causes, delete_causes}

one_false : (b : Bool) (x : Refusal) (rest : Option Refusal) → cond b (Some x) rest ≡ None → (b ≡ false) × (rest ≡ None)
one_false true x rest h = cc
one_false false x rest h = (refl, h)

-- without a refusal no cause holds
pub no_causes : (cs : List (Bool × Refusal)) → first_cause cs ≡ None → AllByRecursion (λ c. c.0 ≡ false) cs
no_causes [] h = tt
no_causes (c ∷ cs) h = let one = one_false c.0 c.1 (first_cause cs) h in (one.0, no_causes cs one.1)

grown : (b : Bool) (k n : ℕ) → k ≡ cond b (n + 1) n → suc k ≡ cond b (suc n + 1) (suc n)
grown true k n h = omega arith
grown false k n h = omega arith

-- the bound that a failed test gives
pub below_if : (a b : ℕ) → nat_le a b ≡ false → b < a
below_if a b h = grind (arith, nat_tests)

pub at_most_if : (a b : ℕ) → nat_lt a b ≡ false → b ≤ a
at_most_if a b h = grind (arith, nat_tests)

one_length : {V : Type 0} (r : Ordering) (name : List ℕ) (v : V) (e : List ℕ × V) (m : Names V) → length (bind name v m) ≡ cond (is_none (value_of name m)) (length m + 1) (length m)
    → length (by_order r ((name, v) ∷ e ∷ m) ((name, v) ∷ m) (e ∷ bind name v m)) ≡ cond (is_none (by_order r None (Some e.1) (value_of name m))) (length (e ∷ m) + 1) (length (e ∷ m))
one_length Less name v e m h = omega arith
one_length Equal name v e m h = refl
one_length Greater name v e m h = grown (is_none (value_of name m)) (length (bind name v m)) (length m) h

pub length-bind : {V : Type 0} (name : List ℕ) (v : V) (m : Names V) → length (bind name v m) ≡ cond (is_none (value_of name m)) (length m + 1) (length m)
length-bind name v [] = omega arith
length-bind name v (e ∷ m) = one_length (by_bytes name e.0) name v e m (length-bind name v m)

one_less : {V : Type 0} (r : Ordering) (name : List ℕ) (e : List ℕ × V) (m : Names V) → length (unbind name m) ≤ length m → length (by_order r (e ∷ m) m (e ∷ unbind name m)) ≤ length (e ∷ m)
one_less Less name e m h = omega arith
one_less Equal name e m h = omega arith
one_less Greater name e m h = omega arith

pub length-unbind : {V : Type 0} (name : List ℕ) (m : Names V) → length (unbind name m) ≤ length m
length-unbind name [] = omega arith
length-unbind name (e ∷ m) = one_less (by_bytes name e.0) name e m (length-unbind name m)

one_gone : {V : Type 0} (r : Ordering) (name : List ℕ) (e : List ℕ × V) (m : Names V) → is_some (by_order r None (Some e.1) (value_of name m)) ≡ true
    → (is_some (value_of name m) ≡ true → length (unbind name m) + 1 ≡ length m) → length (by_order r (e ∷ m) m (e ∷ unbind name m)) + 1 ≡ length (e ∷ m)
one_gone Less name e m h next = cc
one_gone Equal name e m h next = omega arith
one_gone Greater name e m h next = omega (arith, next h)

-- a name that is bound
pub length-unbound : {V : Type 0} (name : List ℕ) (m : Names V) → is_some (value_of name m) ≡ true → length (unbind name m) + 1 ≡ length m
length-unbound name [] h = cc
length-unbound name (e ∷ m) h = one_gone (by_bytes name e.0) name e m h (length-unbound name m)

room : (b : Bool) (n : ℕ) → (b && nat_le 50000 n) ≡ false → n ≤ 50000 → cond b (n + 1) n ≤ 50000
room true n h k = let below = below_if 50000 n h in omega arith
room false n h k = k

pub room_to_put : (name bytes : List ℕ) (s : Source) → first_cause (put_causes s name bytes) ≡ None → length s.held ≤ 50000 → cond (is_none (value_of name s.held)) (length s.held + 1) (length s.held) ≤ 50000
room_to_put name bytes s h k = room (is_none (value_of name s.held)) (length s.held) (no_causes (put_causes s name bytes) h).1.0 k

pub change_to_put : (name bytes : List ℕ) (s : Source) → first_cause (put_causes s name bytes) ≡ None → length s.changes < 50000
change_to_put name bytes s h = below_if 50000 (length s.changes) (no_causes (put_causes s name bytes) h).1.1.0

pub change_to_delete : (name : List ℕ) (s : Source) → first_cause (delete_causes s name) ≡ None → length s.changes < 50000
change_to_delete name s h = below_if 50000 (length s.changes) (no_causes (delete_causes s name) h).1.0

pub length-entries : (held : Names Held) → length (entries held) ≡ length held
length-entries [] = refl
length-entries (e ∷ held) = ap suc (length-entries held)

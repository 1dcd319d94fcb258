-- Binding and unbinding change the value of one name alone.
use Rattle.std.proofs.Common.{◌≡◌, ℕ, List, [], ◌∷◌, refl, sym, ap, ◌∙◌, Some, None, true}
use Rattle.std.specs.Prelude.{IsTrue, ◌≢◌}
use Rattle.std.specs.Ordering.{is_eq}
use Rattle.std.specs.Cmp.Lexicographic.{nat_list_cmp_total}
use Rattle.std.specs.declared.cmp.Ordering.{Ordering}
use Rattle.std.specs.declared.cmp.Ordering.TheVariants.{Less, Equal, Greater}
use Rattle.std.proofs.lemmas.Map.Text.{is_eq-slice_cmp}
use Rattle.std.proofs.lemmas.Slice.Eq.{bytes_eq-Decides}
use Rattle.rs_model.specs.Names.{Names, by_bytes, by_order, value_of, bind, unbind, is_above, is_ordered}
use Rattle.std.specs.Cmp.{first_so}
use Rattle.rs_model.proofs.OrderLemmas.{is_less, tail_ordered}

-- names compare as equal where they are the same, and only there
pub same_name : (x y : List ℕ) → by_bytes x y ≡ Equal → x ≡ y
same_name x y h = (bytes_eq-Decides x y).0 (sym (is_eq-slice_cmp x y) ∙ ap is_eq h)

pub is_equal : (r : Ordering) → is_eq r ≡ true → r ≡ Equal
is_equal Less h = cc
is_equal Equal h = refl
is_equal Greater h = cc

pub itself : (name : List ℕ) → by_bytes name name ≡ Equal
itself name = is_equal (by_bytes name name) (is_eq-slice_cmp name name ∙ (bytes_eq-Decides name name).1 refl)

-- the bound name
value_by : {V : Type 0} (name : List ℕ) (v : V) (e : List ℕ × V) (m : Names V) (r : Ordering) → by_bytes name e.0 ≡ r → value_of name (bind name v m) ≡ Some v
    → value_of name (by_order r ((name, v) ∷ e ∷ m) ((name, v) ∷ m) (e ∷ bind name v m)) ≡ Some v
value_by name v e m Less is next = ap (λ q. by_order q None (Some v) (value_of name (e ∷ m))) (itself name)
value_by name v e m Equal is next = ap (λ q. by_order q None (Some v) (value_of name m)) (itself name)
value_by name v e m Greater is next = ap (λ q. by_order q None (Some e.1) (value_of name (bind name v m))) is ∙ next

pub value-bind : {V : Type 0} (name : List ℕ) (v : V) (m : Names V) → value_of name (bind name v m) ≡ Some v
value-bind name v [] = ap (λ q. by_order q None (Some v) None) (itself name)
value-bind name v (e ∷ m) = value_by name v e m (by_bytes name e.0) refl (value-bind name v m)

-- another name, before the bound one or after it
before_new : {V : Type 0} (name other : List ℕ) (v : V) (e : List ℕ × V) (m : Names V) (q : Ordering) → by_bytes other name ≡ q → by_bytes name e.0 ≡ Less → name ≢ other
    → by_order q None (Some v) (value_of other (e ∷ m)) ≡ value_of other (e ∷ m)
before_new name other v e m Less k is differ = sym (ap (λ q. by_order q None (Some e.1) (value_of other m)) (nat_list_cmp_total.trans other name e.0 k is))
before_new name other v e m Equal k is differ = absurd (differ (sym (same_name other name k)))
before_new name other v e m Greater k is differ = refl

in_place : {V : Type 0} (name other : List ℕ) (v : V) (e : List ℕ × V) (m : Names V) (q : Ordering) → by_bytes other name ≡ q → name ≢ other
    → by_order q None (Some v) (value_of other m) ≡ by_order q None (Some e.1) (value_of other m)
in_place name other v e m Less k differ = refl
in_place name other v e m Equal k differ = absurd (differ (sym (same_name other name k)))
in_place name other v e m Greater k differ = refl

-- of two names that compare as equal, the order to a third is the same
same_order : (name same other : List ℕ) → by_bytes name same ≡ Equal → by_bytes other name ≡ by_bytes other same
same_order name same other h = ap (by_bytes other) (same_name name same h)

other_by : {V : Type 0} (name other : List ℕ) (v : V) (e : List ℕ × V) (m : Names V) (r : Ordering) → by_bytes name e.0 ≡ r → name ≢ other → value_of other (bind name v m) ≡ value_of other m
    → value_of other (by_order r ((name, v) ∷ e ∷ m) ((name, v) ∷ m) (e ∷ bind name v m)) ≡ value_of other (e ∷ m)
other_by name other v e m Less is differ next = before_new name other v e m (by_bytes other name) refl is differ
other_by name other v e m Equal is differ next =
    in_place name other v e m (by_bytes other name) refl differ ∙ ap (λ q. by_order q None (Some e.1) (value_of other m)) (same_order name e.0 other is)
other_by name other v e m Greater is differ next = ap (by_order (by_bytes other e.0) None (Some e.1)) next

alone : {V : Type 0} (name other : List ℕ) (v : V) (q : Ordering) → by_bytes other name ≡ q → name ≢ other → by_order q None (Some v) None ≡ None
alone name other v Less k differ = refl
alone name other v Equal k differ = absurd (differ (sym (same_name other name k)))
alone name other v Greater k differ = refl

pub other-bind : {V : Type 0} (name other : List ℕ) (v : V) (m : Names V) → name ≢ other → value_of other (bind name v m) ≡ value_of other m
other-bind name other v [] differ = alone name other v (by_bytes other name) refl differ
other-bind name other v (e ∷ m) differ = other_by name other v e m (by_bytes name e.0) refl differ (other-bind name other v m differ)

-- no name above a lower one has a value at or below it
none_above : {V : Type 0} (lower name : List ℕ) (m : Names V) → by_bytes name lower ≡ Less → IsTrue (is_above lower m) → value_of name m ≡ None
none_above lower name [] k h = refl
none_above lower name (e ∷ m) k h =
    ap (λ q. by_order q None (Some e.1) (value_of name m)) (nat_list_cmp_total.trans name lower e.0 k (is_less (by_bytes lower e.0) (first_so _ _ h)))

none_after : {V : Type 0} (lower name : List ℕ) (m : Names V) → by_bytes name lower ≡ Equal → IsTrue (is_above lower m) → value_of name m ≡ None
none_after lower name [] k h = refl
none_after lower name (e ∷ m) k h =
    ap (λ q. by_order q None (Some e.1) (value_of name m)) (nat_list_cmp_total.congr name lower e.0 k ∙ is_less (by_bytes lower e.0) (first_so _ _ h))

gone_by : {V : Type 0} (name : List ℕ) (e : List ℕ × V) (m : Names V) (r : Ordering) → by_bytes name e.0 ≡ r → IsTrue (is_above e.0 m) → value_of name (unbind name m) ≡ None
    → value_of name (by_order r (e ∷ m) m (e ∷ unbind name m)) ≡ None
gone_by name e m Less is h next = ap (λ q. by_order q None (Some e.1) (value_of name m)) is
gone_by name e m Equal is h next = none_after e.0 name m is h
gone_by name e m Greater is h next = ap (λ q. by_order q None (Some e.1) (value_of name (unbind name m))) is ∙ next

pub value-unbind : {V : Type 0} (name : List ℕ) (m : Names V) → IsTrue (is_ordered m) → value_of name (unbind name m) ≡ None
value-unbind name [] h = refl
value-unbind name (e ∷ m) h = gone_by name e m (by_bytes name e.0) refl h (value-unbind name m (tail_ordered e.0 m h))

-- another name where the bound one was
left_out : {V : Type 0} (name other : List ℕ) (e : List ℕ × V) (m : Names V) (q : Ordering) → by_bytes other e.0 ≡ q → by_bytes name e.0 ≡ Equal → name ≢ other → IsTrue (is_above e.0 m)
    → value_of other m ≡ by_order q None (Some e.1) (value_of other m)
left_out name other e m Less k is differ h = none_above e.0 other m k h
left_out name other e m Equal k is differ h = absurd (differ (same_name name e.0 is ∙ sym (same_name other e.0 k)))
left_out name other e m Greater k is differ h = refl

kept_by : {V : Type 0} (name other : List ℕ) (e : List ℕ × V) (m : Names V) (r : Ordering) → by_bytes name e.0 ≡ r → name ≢ other → IsTrue (is_above e.0 m) → value_of other (unbind name m) ≡ value_of other m
    → value_of other (by_order r (e ∷ m) m (e ∷ unbind name m)) ≡ value_of other (e ∷ m)
kept_by name other e m Less is differ h next = refl
kept_by name other e m Equal is differ h next = left_out name other e m (by_bytes other e.0) refl is differ h
kept_by name other e m Greater is differ h next = ap (by_order (by_bytes other e.0) None (Some e.1)) next

pub other-unbind : {V : Type 0} (name other : List ℕ) (m : Names V) → name ≢ other → IsTrue (is_ordered m) → value_of other (unbind name m) ≡ value_of other m
other-unbind name other [] differ h = refl
other-unbind name other (e ∷ m) differ h = kept_by name other e m (by_bytes name e.0) refl differ h (other-unbind name other m differ (tail_ordered e.0 m h))

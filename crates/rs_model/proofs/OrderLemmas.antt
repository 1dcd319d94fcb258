-- Names stay in order.
use Rattle.std.proofs.Common.{◌≡◌, ℕ, List, [], ◌∷◌, Bool, true, false, cond, refl, ap, ◌∙◌, Option, Some, None, nat_lt}
use Rattle.std.specs.Prelude.{IsTrue}
use Rattle.std.specs.Ordering.{is_lt, ordering_reverse}
use Rattle.std.specs.Cmp.Lexicographic.{nat_list_cmp_total}
use Rattle.std.specs.declared.cmp.Ordering.{Ordering}
use Rattle.std.specs.declared.cmp.Ordering.TheVariants.{Less, Equal, Greater}
use Rattle.rs_record.specs.declared.facts.Facts.{Facts}
use Rattle.rs_record.specs.declared.change.Change.{Change}
use Rattle.rs_model.specs.declared.value.Entry.{Entry}
use Rattle.rs_model.specs.declared.value.Held.{Held}
use Rattle.rs_model.specs.State.{entries}
use Rattle.rs_model.specs.Step.{applied, mirror_step, mirror_of}
use Rattle.rs_model.specs.Names.{Names, by_bytes, by_order, bind, unbind, is_above, is_ordered}
use Rattle.std.proofs.lemmas.Bool.{and_from}
use Rattle.std.specs.Cmp.{first_so, second_so}

pub is_less : (r : Ordering) → IsTrue (is_lt r) → r ≡ Less
is_less Less h = refl
is_less Equal h = cc
is_less Greater h = cc

-- the same two names compared the other way round
pub swapped : (x y : List ℕ) (r : Ordering) → by_bytes x y ≡ r → by_bytes y x ≡ ordering_reverse r
swapped x y r h = nat_list_cmp_total.antisymm y x ∙ ap ordering_reverse h

above_same : {V : Type 0} (x y : List ℕ) (m : Names V) → by_bytes x y ≡ Equal → IsTrue (is_above y m) → IsTrue (is_above x m)
above_same x y [] e h = refl
above_same x y (z ∷ m) e h =
    and_from _ _ (ap is_lt (nat_list_cmp_total.congr x y z.0 e) ∙ first_so _ _ h) (second_so (is_lt (by_bytes y z.0)) _ h)

above_lower : {V : Type 0} (x y : List ℕ) (m : Names V) → by_bytes x y ≡ Less → IsTrue (is_above y m) → IsTrue (is_above x m)
above_lower x y [] e h = refl
above_lower x y (z ∷ m) e h =
    let one = is_less (by_bytes y z.0) (first_so _ _ h) in
    and_from _ _ (ap is_lt (nat_list_cmp_total.trans x y z.0 e one)) (second_so (is_lt (by_bytes y z.0)) _ h)

one_above : {V : Type 0} (lower name : List ℕ) (v : V) (e : List ℕ × V) (m : Names V) (r : Ordering) → by_bytes name e.0 ≡ r → by_bytes lower name ≡ Less → IsTrue (is_above lower (e ∷ m)) → (by_bytes e.0 name ≡ Less → IsTrue (is_above e.0 (bind name v m)))
    → IsTrue (is_above lower (by_order r ((name, v) ∷ e ∷ m) ((name, v) ∷ m) (e ∷ bind name v m)))
one_above lower name v e m Less is l h next = and_from _ _ (ap is_lt l) (and_from _ _ (ap is_lt is) (second_so (is_lt (by_bytes lower e.0)) _ h))
one_above lower name v e m Equal is l h next = and_from _ _ (ap is_lt l) (above_same name e.0 m is (second_so (is_lt (by_bytes lower e.0)) _ h))
one_above lower name v e m Greater is l h next = and_from _ _ (first_so _ _ h) (next (swapped name e.0 Greater is))

above-bind : {V : Type 0} (lower name : List ℕ) (v : V) (m : Names V) → by_bytes lower name ≡ Less → IsTrue (is_above lower m) → IsTrue (is_above lower (bind name v m))
above-bind lower name v [] l h = and_from _ _ (ap is_lt l) refl
above-bind lower name v (e ∷ m) l h = one_above lower name v e m (by_bytes name e.0) refl l h (λ k. above-bind e.0 name v m k (second_so (is_lt (by_bytes lower e.0)) _ h))

one_ordered : {V : Type 0} (name : List ℕ) (v : V) (e : List ℕ × V) (m : Names V) (r : Ordering) → by_bytes name e.0 ≡ r → IsTrue (is_above e.0 m) → IsTrue (is_ordered (by_order r ((name, v) ∷ e ∷ m) ((name, v) ∷ m) (e ∷ bind name v m)))
one_ordered name v e m Less is h = and_from _ _ (ap is_lt is) h
one_ordered name v e m Equal is h = above_same name e.0 m is h
one_ordered name v e m Greater is h = above-bind e.0 name v m (swapped name e.0 Greater is) h

pub ordered-bind : {V : Type 0} (name : List ℕ) (v : V) (m : Names V) → IsTrue (is_ordered m) → IsTrue (is_ordered (bind name v m))
ordered-bind name v [] h = refl
ordered-bind name v (e ∷ m) h = one_ordered name v e m (by_bytes name e.0) refl h

one_without : {V : Type 0} (lower name : List ℕ) (e : List ℕ × V) (m : Names V) (r : Ordering) → IsTrue (is_above lower (e ∷ m)) → IsTrue (is_above e.0 (unbind name m)) → IsTrue (is_above lower (by_order r (e ∷ m) m (e ∷ unbind name m)))
one_without lower name e m Less h k = h
one_without lower name e m Equal h k = above_lower lower e.0 m (is_less (by_bytes lower e.0) (first_so _ _ h)) (second_so (is_lt (by_bytes lower e.0)) _ h)
one_without lower name e m Greater h k = and_from _ _ (first_so _ _ h) k

above-unbind : {V : Type 0} (lower name : List ℕ) (m : Names V) → IsTrue (is_above lower m) → IsTrue (is_above lower (unbind name m))
above-unbind lower name [] h = refl
above-unbind lower name (e ∷ m) h = one_without lower name e m (by_bytes name e.0) h (above-unbind e.0 name m (second_so (is_lt (by_bytes lower e.0)) _ h))

pub tail_ordered : {V : Type 0} (lower : List ℕ) (m : Names V) → IsTrue (is_above lower m) → IsTrue (is_ordered m)
tail_ordered lower [] h = refl
tail_ordered lower (e ∷ m) h = second_so (is_lt (by_bytes lower e.0)) _ h

rest_ordered : {V : Type 0} (name : List ℕ) (e : List ℕ × V) (m : Names V) (r : Ordering) → IsTrue (is_above e.0 m) → IsTrue (is_ordered (by_order r (e ∷ m) m (e ∷ unbind name m)))
rest_ordered name e m Less h = h
rest_ordered name e m Equal h = tail_ordered e.0 m h
rest_ordered name e m Greater h = above-unbind e.0 name m h

pub ordered-unbind : {V : Type 0} (name : List ℕ) (m : Names V) → IsTrue (is_ordered m) → IsTrue (is_ordered (unbind name m))
ordered-unbind name [] h = refl
ordered-unbind name (e ∷ m) h = rest_ordered name e m (by_bytes name e.0) h

-- the entries have the names of the held resources
above-entries : (lower : List ℕ) (held : Names Held) → IsTrue (is_above lower held) → IsTrue (is_above lower (entries held))
above-entries lower [] h = refl
above-entries lower (e ∷ held) h = and_from _ _ (first_so _ _ h) (above-entries e.0 held (second_so (is_lt (by_bytes lower e.0)) _ h))

pub ordered-entries : (held : Names Held) → IsTrue (is_ordered held) → IsTrue (is_ordered (entries held))
ordered-entries [] h = refl
ordered-entries (e ∷ held) h = above-entries e.0 held h

-- every change of a mirror keeps the order
ordered_applied : (facts : Option Facts) (change : Change) (m : Names Entry) → IsTrue (is_ordered m) → IsTrue (is_ordered (applied facts change m))
ordered_applied (Some facts) change m h = ordered-bind change.name (record { facts = facts; moment = change.moment }) m h
ordered_applied None change m h = ordered-unbind change.name m h

ordered_if : (b : Bool) (m n : Names Entry) → IsTrue (is_ordered m) → IsTrue (is_ordered n) → IsTrue (is_ordered (cond b m n))
ordered_if true m n h k = h
ordered_if false m n h k = k

pub ordered_mirror : (m : Names Entry) (at : ℕ) (changes : List Change) → IsTrue (is_ordered m) → IsTrue (is_ordered (mirror_of m at changes))
ordered_mirror m at [] h = h
ordered_mirror m at (c ∷ changes) h =
    ordered_mirror (mirror_step at c m) at changes (ordered_if (nat_lt at c.moment) (applied c.facts c m) m (ordered_applied c.facts c m h) h)

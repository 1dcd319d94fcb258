-- The place of a name in a map.
use Rattle.std.proofs.Common.{◌≡◌, ℕ, zero, suc, ◌+◌, ◌<◌, length, get_or, refl, sym, ap, ◌∙◌, subst, arith, add-one}
use Rattle.std.specs.Prelude.{List, [], ◌∷◌, Some, None}
use Rattle.std.specs.declared.cmp.Ordering.TheVariants.{Less, Equal, Greater}
use Rattle.rs_model.specs.Names.{Names, by_bytes, by_order, value_of, bind, unbind, IsFoundAt, IsMissingAt}

-- the name comes after all of the first entries
abbrev pub Passes : {V : Type 0} → List ℕ → Names V → ℕ → Type 0
Passes name m zero = Unit {0}
Passes name [] (suc i) = ⊥
Passes name (e ∷ m) (suc i) = (by_bytes name e.0 ≡ Greater) × Passes name m i

-- a map of at least one entry, by the comparison of its first entry
pub first_missing : {V : Type 0} (name : List ℕ) (x : List ℕ × V) (m : Names V) → by_bytes name x.0 ≡ Less → IsMissingAt (x ∷ m) name 0
first_missing name x m l =
    record {
      within = omega arith;
      value = ap (λ r. by_order r None (Some x.1) (value_of name m)) l;
      bound = λ v. ap (λ r. by_order r ((name, v) ∷ x ∷ m) ((name, v) ∷ m) (x ∷ bind name v m)) l;
      unbound = ap (λ r. by_order r (x ∷ m) m (x ∷ unbind name m)) l;
    }

pub first_found : {V : Type 0} (name : List ℕ) (x : List ℕ × V) (m : Names V) → by_bytes name x.0 ≡ Equal → IsFoundAt (x ∷ m) name 0
first_found name x m l =
    record {
      within = omega arith;
      value = (x, refl, ap (λ r. by_order r None (Some x.1) (value_of name m)) l);
      bound = λ v. ap (λ r. by_order r ((name, v) ∷ x ∷ m) ((name, v) ∷ m) (x ∷ bind name v m)) l;
      unbound = ap (λ r. by_order r (x ∷ m) m (x ∷ unbind name m)) l;
    }

pub later_missing : {V : Type 0} (name : List ℕ) (x : List ℕ × V) (m : Names V) (i : ℕ) → by_bytes name x.0 ≡ Greater → IsMissingAt m name i → IsMissingAt (x ∷ m) name (suc i)
later_missing name x m i l h =
    record {
      within = omega (arith, h.within);
      value = ap (λ r. by_order r None (Some x.1) (value_of name m)) l ∙ h.value;
      bound = λ v. ap (λ r. by_order r ((name, v) ∷ x ∷ m) ((name, v) ∷ m) (x ∷ bind name v m)) l ∙ ap (λ rest. x ∷ rest) (h.bound v);
      unbound = ap (λ r. by_order r (x ∷ m) m (x ∷ unbind name m)) l ∙ ap (λ rest. x ∷ rest) h.unbound;
    }

pub later_found : {V : Type 0} (name : List ℕ) (x : List ℕ × V) (m : Names V) (i : ℕ) → by_bytes name x.0 ≡ Greater → IsFoundAt m name i → IsFoundAt (x ∷ m) name (suc i)
later_found name x m i l h =
    record {
      within = omega (arith, h.within);
      value = (h.value.0, h.value.1, ap (λ r. by_order r None (Some x.1) (value_of name m)) l ∙ h.value.2);
      bound = λ v. ap (λ r. by_order r ((name, v) ∷ x ∷ m) ((name, v) ∷ m) (x ∷ bind name v m)) l ∙ ap (λ rest. x ∷ rest) (h.bound v);
      unbound = ap (λ r. by_order r (x ∷ m) m (x ∷ unbind name m)) l ∙ ap (λ rest. x ∷ rest) h.unbound;
    }

pub missing_at : {V : Type 0} (name : List ℕ) (m : Names V) (i : ℕ) (e : List ℕ × V) → Passes name m i → i < length m → e ≡ get_or m i e → Less ≡ by_bytes name e.0 → IsMissingAt m name i
missing_at name [] i e p h is l = absurd (omega arith)
missing_at name (x ∷ m) zero e p h is l = first_missing name x m (sym (l ∙ ap (λ y. by_bytes name y.0) is))
missing_at name (x ∷ m) (suc i) e p h is l = later_missing name x m i p.0 (missing_at name m i e p.1 (omega arith) is l)

pub found_at : {V : Type 0} (name : List ℕ) (m : Names V) (i : ℕ) (e : List ℕ × V) → Passes name m i → i < length m → e ≡ get_or m i e → Equal ≡ by_bytes name e.0 → IsFoundAt m name i
found_at name [] i e p h is l = absurd (omega arith)
found_at name (x ∷ m) zero e p h is l = first_found name x m (sym (l ∙ ap (λ y. by_bytes name y.0) is))
found_at name (x ∷ m) (suc i) e p h is l = later_found name x m i p.0 (found_at name m i e p.1 (omega arith) is l)

passes_suc : {V : Type 0} (name : List ℕ) (m : Names V) (i : ℕ) (e : List ℕ × V) → Passes name m i → i < length m → e ≡ get_or m i e → Greater ≡ by_bytes name e.0 → Passes name m (suc i)
passes_suc name [] i e p h is l = omega arith
passes_suc name (x ∷ m) zero e p h is l = (sym (l ∙ ap (λ y. by_bytes name y.0) is), tt)
passes_suc name (x ∷ m) (suc i) e p h is l = (p.0, passes_suc name m i e p.1 (omega arith) is l)

pub passes_more : {V : Type 0} (name : List ℕ) (m : Names V) (i : ℕ) (e : List ℕ × V) → Passes name m i → i < length m → e ≡ get_or m i e → Greater ≡ by_bytes name e.0 → Passes name m (i + 1)
passes_more name m i e p h is l = rw add-one (passes_suc name m i e p h is l)

pub missing_all : {V : Type 0} (name : List ℕ) (m : Names V) → Passes name m (length m) → IsMissingAt m name (length m)
missing_all name [] p = record { within = omega arith; value = refl; bound = λ v. refl; unbound = refl }
missing_all name (x ∷ m) p = later_missing name x m (length m) p.0 (missing_all name m p.1)

pub missing_end : {V : Type 0} (name : List ℕ) (m : Names V) (i : ℕ) → Passes name m i → i ≡ length m → IsMissingAt m name (length m)
missing_end {V} name m i p e = missing_all name m (subst (λ (j : ℕ). Passes name m j) e p)

-- The meaning of a reader's answer for the bytes, for any format.
use Rattle.std.proofs.Common.{◌≡◌, ℕ, List, ◌++◌, Option, Some, None, Result, Ok, Err, refl, sym, ap, ◌∙◌}
use Rattle.std.specs.Prelude.{IfOk, IsErrOf, IsSome, ◌↔◌}
use Rattle.std.specs.Option.{option_map}
use Rattle.rs_record.specs.Format.{BeginsWith}
use Rattle.rs_record.specs.Reading.{IsValueAt}
use Rattle.rs_record.specs.declared.fault.ValueFault.{ValueFault}
use Rattle.rs_record.specs.declared.fault.ValueFault.TheVariants.{Malformed, NoMemory}
use Rattle.rs_record.proofs.FieldLaws.{AreBytes, IsFormat, some_is}

-- the first of two that were read
first_read : {A : Type 0} (o : Option (A × List ℕ)) (x : A) → option_map (λ y. y.0) o ≡ Some x → (rest : List ℕ) × (o ≡ Some (x, rest))
first_read None x e = absurd cc
first_read (Some y) x e = (y.1, ap (λ z. Some (z, y.1)) (some_is y.0 x e))

-- if the bytes begin with a lawful format, it is read
reads : {A : Type 0} (read : List ℕ → Option (A × List ℕ)) (write : A → List ℕ) (IsLawful : A → Type 0) → IsFormat read write IsLawful → (bytes : List ℕ) (x : A) → IsLawful x → (begins : BeginsWith bytes (write x)) → read bytes ≡ Some (x, begins.0)
reads read write IsLawful format bytes x lawful begins = ap read begins.1 ∙ format.again x begins.0 lawful

-- the value of an option that has one
some_read : {A : Type 0} (o : Option A) → IsSome o → (x : A) × (o ≡ Some x)
some_read None h = absurd cc
some_read (Some x) h = (x, refl)

module _ {A : Type 0} (read : List ℕ → Option (A × List ℕ)) (write : A → List ℕ) (IsLawful : A → Type 0) (format : IsFormat read write IsLawful) (bytes : List ℕ) (fits : AreBytes bytes) where
  pub found : (result : Result (A × ℕ) ValueFault) → IsValueAt write result (read bytes) → IfOk result (λ x. IsLawful x.0 × BeginsWith bytes (write x.0))
  found (Ok x) h =
      let y = first_read (read bytes) x.0 h.0 in
      let t = format.takes bytes (x.0, y.0) fits y.1 in
      (t.lawful, (y.0, t.parts))
  found (Err e) h = tt

  -- the bytes begin with the value that was read
  begins_with : (x : A × List ℕ) → read bytes ≡ Some x → ((y : A) → IsLawful y → BeginsWith bytes (write y) → ⊥) → ⊥
  begins_with x e none = let t = format.takes bytes x fits e in none x.0 t.lawful (x.1, t.parts)

  pub malformed : (result : Result (A × ℕ) ValueFault) → IsValueAt write result (read bytes) → IsErrOf result Malformed ↔ ((x : A) → IsLawful x → BeginsWith bytes (write x) → ⊥)
  malformed (Ok x) h = let y = first_read (read bytes) x.0 h.0 in (λ e. absurd cc, λ none. absurd (begins_with (x.0, y.0) y.1 none))
  malformed (Err Malformed) h = (λ e x lawful begins. let some = reads read write IsLawful format bytes x lawful begins in absurd cc, λ none. refl)
  malformed (Err NoMemory) h = let y = some_read (read bytes) h in (λ e. absurd cc, λ none. absurd (begins_with y.0 y.1 none))

  pub only : (result : Result (A × ℕ) ValueFault) → IsValueAt write result (read bytes) → (x : A) → IsLawful x → BeginsWith bytes (write x) → IfOk result (λ y. y.0 ≡ x)
  only (Ok y) h x lawful begins =
      let z = first_read (read bytes) y.0 h.0 in
      ap (λ w. w.0) (some_is (y.0, z.0) (x, begins.0) (sym z.1 ∙ reads read write IsLawful format bytes x lawful begins))
  only (Err e) h x lawful begins = tt

-- no format is the front of another
pub alone : {A : Type 0} (read : List ℕ → Option (A × List ℕ)) (write : A → List ℕ) (IsLawful : A → Type 0) → IsFormat read write IsLawful → (x y : A) (r s : List ℕ) → IsLawful x → IsLawful y → write x ++ r ≡ write y ++ s → (x ≡ y) × (r ≡ s)
alone read write IsLawful format x y r s p q e =
    let same = some_is (x, r) (y, s) (sym (format.again x r p) ∙ ap read e ∙ format.again y s q) in
    (ap (λ z. z.0) same, ap (λ z. z.1) same)

-- The cause of a halt of a run that begins with a formatting.
use Rattle.std.proofs.Common.{◌≡◌, ◌⊎◌, inl, inr, ℕ, ◌<◌, Bool, true, false, List, refl, arith, Result, Err}
use Rattle.std.specs.Prelude.{◌↔◌, IsTrue, IsErrAnd}
use Rattle.std.proofs.lemmas.Bool.{cases_lt}
use Rattle.rs_record.specs.Base.{is_base}
use Rattle.rs_directory.specs.Limit.{IsLimit}
use Rattle.rs_image.specs.Reach.{blocks_of_disk}
use Rattle.rs_store.specs.declared.formatting.FormatFault.{FormatFault}
use Rattle.rs_store.specs.declared.formatting.FormatFault.TheVariants.{BadBase, BadLimit, TooSmall}
use Rattle.rs_store.specs.Source.{Stored}
use Rattle.rs_recovery.specs.declared.surviving.Halt.TheVariants.{Formatting}
use Rattle.rs_recovery.specs.Surviving.{MayFormat, HasHalted}

-- a number is a limit or not
limit_or_not : (n : ℕ) → IsLimit n ⊎ (¬ IsLimit n)
limit_or_not n = elim (cases_lt n 2) [
  | inl low ↦ inr (λ is. absurd (omega (arith, low, is.low)))
  | inr enough ↦ elim (cases_lt 4000 n) [
    | inl high ↦ inr (λ is. absurd (omega (arith, high, is.high)))
    | inr few ↦ inl (record { low = enough; high = few })
  ]
]

module _ {D : Type 0} (base : List ℕ) (limit size : ℕ) (result : Result (Stored D) (D × FormatFault))
    (bad_base : IsErrAnd result (λ e. e.1 ≡ BadBase) ↔ (is_base base ≡ false))
    (bad_limit : IsErrAnd result (λ e. e.1 ≡ BadLimit) ↔ (IsTrue (is_base base) × (¬ IsLimit limit)))
    (too_small : IsErrAnd result (λ e. e.1 ≡ TooSmall) ↔ (IsTrue (is_base base) × IsLimit limit × (blocks_of_disk size < 16))) where
  lawful_base : (b : Bool) → is_base base ≡ b → ¬ IsErrAnd result (λ e. e.1 ≡ BadBase) → IsTrue (is_base base)
  lawful_base true same other = same
  lawful_base false same other = absurd (other (bad_base.1 same))

  -- if a formatting was not refused for any of the causes, no cause exists
  pub may_format : ¬ IsErrAnd result (λ e. e.1 ≡ BadBase) → ¬ IsErrAnd result (λ e. e.1 ≡ BadLimit) → ¬ IsErrAnd result (λ e. e.1 ≡ TooSmall)
      → MayFormat base limit size
  may_format no_base no_limit no_size =
      let lawful = lawful_base (is_base base) refl no_base in
      let among : IsLimit limit = elim (limit_or_not limit) [ inl is ↦ is | inr isnt ↦ absurd (no_limit (bad_limit.1 (lawful, isnt))) ] in
      record {
        lawful = lawful;
        among = among;
        room = elim (cases_lt (blocks_of_disk size) 16) [ inl small ↦ absurd (no_size (too_small.1 (lawful, among, small))) | inr room ↦ room ];
      }

module _ {D : Type 0} (base : List ℕ) (limit size : ℕ) (disk : D) where
  -- a refused formatting was refused for its cause
  pub format_halted : (fault : FormatFault)
      → (fault ≡ BadBase ↔ (is_base base ≡ false))
      → (fault ≡ BadLimit ↔ (IsTrue (is_base base) × (¬ IsLimit limit)))
      → (fault ≡ TooSmall ↔ (IsTrue (is_base base) × IsLimit limit × (blocks_of_disk size < 16)))
      → HasHalted base limit size (Formatting fault)
  format_halted BadBase bad_base bad_limit too_small = bad_base.0 refl
  format_halted BadLimit bad_base bad_limit too_small = bad_limit.0 refl
  format_halted TooSmall bad_base bad_limit too_small = too_small.0 refl
  format_halted fault bad_base bad_limit too_small =
      may_format {D = D} base limit size (Err (disk, fault)) bad_base bad_limit too_small (λ is. absurd cc) (λ is. absurd cc) (λ is. absurd cc)

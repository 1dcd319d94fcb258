-- Refusals that are passed on.
use Rattle.std.proofs.Common.{◌≡◌, Result, Err}
use Rattle.std.specs.Prelude.{◌↔◌, IsErrOf}
use Rattle.rs_model.specs.declared.command.Refusal.{Refusal}
use Rattle.rs_model.specs.declared.command.StepError.{StepError}
use Rattle.rs_model.specs.declared.command.StepError.TheVariants.{Refused}

-- a result with the same error has the same refusals
pub refusal_passed : {A B : Type 0} (P : Refusal → Type 0) (given : Result A StepError) (passed : Result B StepError) (e : StepError) → given ≡ Err e → passed ≡ Err e
    → ((r : Refusal) → IsErrOf given (Refused r) ↔ P r) → (r : Refusal) → IsErrOf passed (Refused r) ↔ P r
refusal_passed P given passed e a b h r = (λ k. (h r).0 (cc), λ k. let back : given ≡ Err (Refused r) = (h r).1 k in cc)

-- Causes in a row: those of the fields, and then the others; and plans that take memory.
use Rattle.std.proofs.Common.{◌≡◌, ◌∙◌, inl, inr, true, false, [], ◌∷◌, ◌++◌, Option, Some, None, Result, Ok, Err, refl}
use Rattle.rs_http.specs.declared.request.RequestFault.{RequestFault}
use Rattle.rs_http.specs.declared.request.RequestPlan.{RequestPlan}
use Rattle.rs_http.specs.Checks.{Causes, first_fault}
use Rattle.rs_http.specs.Requests.{IsPlanFor}

-- no cause of the first list applies
passed : (xs ys : Causes) → first_fault xs ≡ None → first_fault (xs ++ ys) ≡ first_fault ys
passed [] ys e = refl
passed ((true, fault) ∷ xs) ys e = absurd cc
passed ((false, fault) ∷ xs) ys e = passed xs ys e

-- no cause applies, so no cause of the last list
pub free_after : (xs ys : Causes) → first_fault (xs ++ ys) ≡ None → first_fault ys ≡ None
free_after [] ys e = e
free_after ((true, fault) ∷ xs) ys e = absurd cc
free_after ((false, fault) ∷ xs) ys e = free_after xs ys e

-- one of them applies
pub met : (xs ys : Causes) (fault : RequestFault) → first_fault xs ≡ Some fault → first_fault (xs ++ ys) ≡ Some fault
met [] ys fault e = absurd cc
met ((true, f) ∷ xs) ys fault e = e
met ((false, f) ∷ xs) ys fault e = met xs ys fault e

pub planned_after : (xs ys : Causes) (plan : Option RequestPlan) (made : Result RequestPlan RequestFault) → first_fault xs ≡ None → IsPlanFor ys plan made → IsPlanFor (xs ++ ys) plan made
planned_after xs ys plan (Ok p) e h = (passed xs ys e ∙ h.0, h.1)
planned_after xs ys plan (Err fault) e (inl refused) = inl (passed xs ys e ∙ refused)
planned_after xs ys plan (Err fault) e (inr lacking) = inr (lacking.0, passed xs ys e ∙ lacking.1, lacking.2)

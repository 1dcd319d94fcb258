-- Faults that are handed on, and facts of successes.
use Rattle.std.proofs.Common.{◌≡◌, Result, Ok, Err, sym, ◌∙◌, subst}
use Rattle.std.specs.Prelude.{OnOk, OnErr, IfOk, IfErr, IsErrOf}
use Rattle.std.specs.Result.{IsErrAnd}

-- the fault that was handed on is this fault
pub handed_on : {T E : Type 0} (r : Result T E) (e fault : E) → IsErrAnd r (λ y. y ≡ e) → IsErrOf r fault → e ≡ fault
handed_on (Ok x) e fault handed is = absurd handed
handed_on (Err y) e fault handed is = let same : y ≡ fault = cc in sym handed ∙ same

pub handed_err : {T S E : Type 0} (r : Result T E) (e fault : E) → IsErrAnd r (λ y. y ≡ e) → IsErrOf r fault → IsErrOf {T = S} (Err e) fault
handed_err r e fault handed is = (λ i. Err (handed_on r e fault handed is i))

pub told_on : {T S E : Type 0} (r : Result T E) (e fault : E) → IsErrAnd r (λ y. y ≡ e) → IsErrOf {T = S} (Err e) fault → IsErrOf r fault
told_on (Ok x) e fault handed is = absurd handed
told_on (Err y) e fault handed is = let same : e ≡ fault = cc in λ i. Err ((handed ∙ same) i)

pub same_err : {S T E : Type 0} (e fault : E) → IsErrOf {T = S} (Err e) fault → IsErrOf {T = T} (Err e) fault
same_err e fault is = let same : e ≡ fault = cc in λ i. Err (same i)

pub err_is : {T E : Type 0} (r : Result T E) (e : E) → IsErrAnd r (λ y. y ≡ e) → r ≡ Err e
err_is (Ok x) e handed = absurd handed
err_is (Err y) e handed = λ i. Err (handed i)

pub no_err : {T E : Type 0} (P : E → Type 0) (r : Result T E) (fault : E) → IfErr r P → ¬ P fault → ¬ IsErrOf r fault
no_err P (Ok x) fault others none is = absurd cc
no_err P (Err e) fault others none is = let same : e ≡ fault = cc in none (subst P same others)

-- a consequence of a fact of success is a fact of success
pub on_ok : {T E : Type 0} {P Q : Type 0} (r : Result T E) → (P → Q) → OnOk r P → OnOk r Q
on_ok (Ok x) f p = f p
on_ok (Err e) f p = tt

pub on_err : {T E : Type 0} (P : Type 0) (r : Result T E) → P → OnErr r P
on_err P (Ok x) p = tt
on_err P (Err e) p = p

pub mapped_err : {T E : Type 0} {P Q : Type 0} (r : Result T E) → (P → Q) → OnErr r P → OnErr r Q
mapped_err (Ok x) f p = tt
mapped_err (Err e) f p = f p

pub both_ok : {T E : Type 0} {P R : T → Type 0} {Q : Type 0} (r : Result T E) → ((x : T) → P x → Q → R x) → IfOk r P → OnOk r Q → IfOk r R
both_ok (Ok x) f p q = f x p q
both_ok (Err e) f p q = tt

-- a fact that holds in both cases is a fact of success
pub either_way : {T E P : Type 0} (r : Result T E) → P → OnOk r P
either_way (Ok x) p = p
either_way (Err e) p = tt

-- Whether a head ends depends only on the bytes before.
use Rattle.std.proofs.Common.{◌≡◌, ℕ, zero, suc, ◌+◌, ◌-◌, ◌<◌, ◌≤◌, true, false, List, [], ◌∷◌, length, take, get_or, set, refl, ap, sym, ◌∙◌, arith, subst, Option}
use Rattle.std.proofs.lemmas.Grind.{common_steps}
use Rattle.std.proofs.lemmas.List.{get_or-take, take-set, take_more_set}
use Rattle.std.specs.Prelude.{Result, Ok, Err, OnErr}
use Rattle.std.proofs.KnownBytes.{Consumes-trans}
use Rattle.std.specs.Io.KnownBytes.{Consumes}
use Rattle.rs_http.specs.Head.{ends_head, HasNoEnd, IsHead}

pub ends_head-take : (bytes : List ℕ) (m k : ℕ) → k ≤ m → ends_head (take m bytes) k ≡ ends_head bytes k
unfolding ends_head
ends_head-take bytes m zero h = refl
ends_head-take bytes m (suc k) h =
    let a : get_or (take m bytes) (suc k - 1) 0 ≡ get_or bytes (suc k - 1) 0 = get_or-take m bytes (suc k - 1) 0 (omega arith) in
    let b : get_or (take m bytes) (suc k - 2) 0 ≡ get_or bytes (suc k - 2) 0 = get_or-take m bytes (suc k - 2) 0 (omega arith) in
    let c : get_or (take m bytes) (suc k - 3) 0 ≡ get_or bytes (suc k - 3) 0 = get_or-take m bytes (suc k - 3) 0 (omega arith) in
    cc

pub no_end_at_none : (k : ℕ) → k ≤ 0 → ends_head [] k ≡ false
unfolding ends_head
no_end_at_none zero h = refl
no_end_at_none (suc k) h = absurd (omega arith)

-- one byte more changes no end of a head before it
before_it : (buf : List ℕ) (n b : ℕ) → n < length buf → HasNoEnd (take n buf) → (k : ℕ) → k ≤ n → ends_head (take (n + 1) (set buf n b)) k ≡ false
before_it buf n b lt none k le =
    ends_head-take (set buf n b) (n + 1) k (omega arith) ∙ sym (ends_head-take (set buf n b) n k le)
    ∙ ap (λ z. ends_head z k) (take-set buf n b) ∙ none k (grind (arith, common_steps))

-- it does not end the head
pub HasNoEnd-more : (buf : List ℕ) (n b : ℕ) → n < length buf → HasNoEnd (take n buf)
    → ends_head (take (n + 1) (set buf n b)) (length (take (n + 1) (set buf n b))) ≡ false → HasNoEnd (take (n + 1) (set buf n b))
HasNoEnd-more buf n b lt none here k le =
    let len : length (take (n + 1) (set buf n b)) ≡ n + 1 = grind (arith, common_steps) in
    let before : k ≤ n → ends_head (take (n + 1) (set buf n b)) k ≡ false = before_it buf n b lt none k in
    let last : k ≡ n + 1 → ends_head (take (n + 1) (set buf n b)) k ≡ false = λ e. ap (ends_head (take (n + 1) (set buf n b))) (e ∙ sym len) ∙ here in
    let small : k ≤ n + 1 = omega arith in
    grind (arith, before, last)

-- it does
pub IsHead-more : (buf : List ℕ) (n b : ℕ) → n < length buf → HasNoEnd (take n buf)
    → ends_head (take (n + 1) (set buf n b)) (length (take (n + 1) (set buf n b))) ≡ true → IsHead (take (n + 1) (set buf n b))
IsHead-more buf n b lt none here = record {
  ends = here;
  first = λ k small.
      let len : length (take (n + 1) (set buf n b)) ≡ n + 1 = grind (arith, common_steps) in
      before_it buf n b lt none k (omega arith);
}

-- the bytes that came so far, and the byte that came now
pub came_more : (r s t : Option (List ℕ)) (buf : List ℕ) (n b : ℕ) → n < length buf → Consumes r s (take n buf) → Consumes s t (b ∷ [])
    → Consumes r t (take (n + 1) (set buf n b))
came_more r s t buf n b lt h k =
    let Q : List ℕ → Type 0 = λ bytes. Consumes r t bytes in
    subst Q (sym (take_more_set buf n b lt)) (Consumes-trans r s t (take n buf) (b ∷ []) h k)

pub on_err : {T E P : Type 0} (r : Result T E) → P → OnErr r P
on_err (Ok x) p = tt
on_err (Err e) p = p

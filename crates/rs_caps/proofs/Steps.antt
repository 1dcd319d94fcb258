-- The result of a step of a reading, and the test in it.
use Rattle.std.proofs.Common.{◌≡◌, ℕ, List, [], ◌∷◌, ◌++◌, refl, ap, ◌∙◌, Option, Some, None, Bool, true, false, cond}
use Rattle.std.specs.Prelude.{IsTrue, ◌&&◌, ◌==◌}
use Rattle.std.proofs.lemmas.Bool.{eqb-true}
use Rattle.std.specs.Cmp.{first_so, second_so}
use Rattle.std.specs.List.{list_all}
use Rattle.std.specs.Cmp.Lexicographic.{bytes_decides}
use Rattle.rs_time.specs.ReadMoment.{same_bytes}
use Rattle.rs_fixity.specs.Cut.{lacks}
use Rattle.rs_caps.proofs.FromBelow.{then_some, cut_value}
use Rattle.rs_caps.specs.Cut.{◌or_else◌, strip, cut, value_to}

-- a value before its mark is read
pub value_own : {A : Type 0} (mark : ℕ) (read : List ℕ → Option A) (value rest : List ℕ) (x : A) → read value ≡ Some x
    → IsTrue (lacks mark value)
    → value_to mark read (value ++ mark ∷ rest) ≡ Some (x, mark ∷ rest)
value_own mark read value rest x e h =
    let c = cut_value mark value rest h in
    then_some (read (cut mark (value ++ mark ∷ rest)).0) (λ y. Some (y, (cut mark (value ++ mark ∷ rest)).1)) x _
    (ap (λ p. read p.0) c ∙ e) (ap (λ p. Some (x, p.1)) c)

-- a value that a test let through
pub let_through : {A : Type 0} (b : Bool) (o : Option A) (y : A) → cond b o None ≡ Some y → (b ≡ true) × (o ≡ Some y)
let_through true o y h = (refl, h)
let_through false o y h = cc

-- the result of one of two readings
pub either_gave : {A : Type 0} (P : Type 0) (a b : Option A) (y : A) → (a ≡ Some y → P) → (b ≡ Some y → P) → (a or_else b) ≡ Some y → P
either_gave P None b y h k e = k e
either_gave P (Some x) b y h k e = h e

-- the text of which a beginning was stripped off
pub strip_gave : (p text rest : List ℕ) → strip p text ≡ Some rest → text ≡ p ++ rest
unfolding strip
strip_gave [] text rest h = cc
strip_gave (c ∷ p) [] rest h = cc
strip_gave (c ∷ p) (d ∷ text) rest h =
    let both = let_through (d == c) (strip p text) rest h in
    ap (λ l. d ∷ l) (strip_gave p text rest both.1) ∙ ap (λ x. x ∷ p ++ rest) (eqb-true d c both.0)

-- a text has the same bytes as itself, and as no other
pub same_bytes-itself : (text : List ℕ) → same_bytes text text ≡ true
same_bytes-itself text = (bytes_decides text text).1 refl

pub same_bytes-equal : (a b : List ℕ) → same_bytes a b ≡ true → a ≡ b
same_bytes-equal a b h = (bytes_decides a b).0 h

-- where every byte that passes one test passes another, so do the bytes of a text
pub all_pass : (p q : ℕ → Bool) → ((c : ℕ) → p c ≡ true → q c ≡ true) → (text : List ℕ) → list_all p text ≡ true → list_all q text ≡ true
all_pass p q so [] h = refl
all_pass p q so (c ∷ text) h = λ i. so c (first_so (p c) (list_all p text) h) i && all_pass p q so text
    (second_so (p c) (list_all p text) h) i

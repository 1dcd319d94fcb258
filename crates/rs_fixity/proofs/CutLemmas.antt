-- A text is cut where it was joined.
use Rattle.std.proofs.Common.{◌≡◌, ℕ, List, [], ◌∷◌, ◌++◌, refl, ap, ◌∙◌, arith, Option, Some, None, Bool, true, false, cond}
use Rattle.std.specs.Prelude.{◌==◌, ◌&&◌, not, nat_eq, IsTrue}
use Rattle.std.specs.Cmp.{first_so, second_so}
use Rattle.std.specs.Cmp.Lexicographic.{pointwise, bytes_decides}
use Rattle.std.specs.List.{list_all, Contains}
use Rattle.std.proofs.lemmas.List.Elements.{All-contains}
use Rattle.std.proofs.lemmas.List.Sums.{AllPass-from_list_all}
use Rattle.std.proofs.lemmas.Bool.Decides.{nat_tests}
use Rattle.rs_fixity.specs.Cut.{◌>>=◌, strip, cut, with_first, lacks, if_written}

-- a step that gives a value is followed by the next
pub then_some : {A B : Type 0} (r : Option A) (f : A → Option B) (x : A) (y : Option B) → r ≡ Some x → f x ≡ y
    → (r >>= f) ≡ y
then_some r f x y e h = ap (λ o. o >>= f) e ∙ h

-- if a step followed by the next gave a value, both of them did
pub then_gave : {A B : Type 0} (r : Option A) (f : A → Option B) (y : B) → (r >>= f) ≡ Some y
    → (x : A) × (r ≡ Some x) × (f x ≡ Some y)
then_gave None f y e = cc
then_gave (Some x) f y e = (x, refl, e)

byte_itself : (c : ℕ) → (c == c) ≡ true
byte_itself c = grind (arith, nat_tests)

-- a beginning is stripped off
pub strip_own : (p rest : List ℕ) → strip p (p ++ rest) ≡ Some rest
unfolding strip
strip_own [] rest = refl
strip_own (c ∷ p) rest = ap (λ b. cond b (strip p (p ++ rest)) None) (byte_itself c) ∙ strip_own p rest

cut_more : (b : Bool) (mark c : ℕ) (value rest : List ℕ) → IsTrue (not b && lacks mark value)
    → (IsTrue (lacks mark value) → cut mark (value ++ mark ∷ rest) ≡ (value, mark ∷ rest))
    → cond b ([], c ∷ value ++ mark ∷ rest) (with_first c (cut mark (value ++ mark ∷ rest))) ≡ (c ∷ value, mark ∷ rest)
cut_more true mark c value rest h next = cc
cut_more false mark c value rest h next = ap (with_first c) (next h)

-- a value without the mark is cut off before it
pub cut_value : (mark : ℕ) (value rest : List ℕ) → IsTrue (lacks mark value)
    → cut mark (value ++ mark ∷ rest) ≡ (value, mark ∷ rest)
unfolding cut
cut_value mark [] rest h = ap (λ b. cond b ([], mark ∷ rest) (with_first mark (cut mark rest))) (byte_itself mark)
cut_value mark (c ∷ value) rest h = cut_more (c == mark) mark c value rest h (λ k. cut_value mark value rest k)

stripped_by : (b : Bool) (p c : ℕ) (front text rest : List ℕ) → (c == p) ≡ b
    → cond b (strip front text) None ≡ Some rest → (strip front text ≡ Some rest → text ≡ front ++ rest)
    → c ∷ text ≡ p ∷ front ++ rest
stripped_by true p c front text rest e h next = let is : c ≡ p = grind (arith, nat_tests) in λ i. is i ∷ next h i
stripped_by false p c front text rest e h next = cc

-- only a beginning is stripped off
pub strip_gave : (front text rest : List ℕ) → strip front text ≡ Some rest → text ≡ front ++ rest
unfolding strip
strip_gave [] text rest h = cc
strip_gave (p ∷ front) [] rest h = cc
strip_gave (p ∷ front) (c ∷ text) rest h =
    stripped_by (c == p) p c front text rest refl h (strip_gave front text rest)

-- a text cut before the mark: the first part lacks the mark, and the rest is empty or begins with it
pub record IsCut (mark : ℕ) (text : List ℕ) (parts : List ℕ × List ℕ) : Type 0 where
  pub joined : parts.0 ++ parts.1 ≡ text
  pub lacking : IsTrue (lacks mark parts.0)
  pub marked : (c : ℕ) (rest : List ℕ) → parts.1 ≡ c ∷ rest → c ≡ mark

cut_by : (b : Bool) (mark c : ℕ) (text : List ℕ) (parts : List ℕ × List ℕ) → (c == mark) ≡ b → IsCut mark text parts
    → IsCut mark (c ∷ text) (cond b ([], c ∷ text) (with_first c parts))
cut_by true mark c text parts e h =
    let is : c ≡ mark = grind (arith, nat_tests) in
    record { joined = refl; lacking = refl; marked = λ d rest same. cc }
cut_by false mark c text parts e h = record {
  joined = ap (λ l. c ∷ l) h.joined;
  lacking = λ i. not (e i) && h.lacking i;
  marked = h.marked;
}

-- every text is cut this way
pub cut_is : (mark : ℕ) (text : List ℕ) → IsCut mark text (cut mark text)
unfolding cut
cut_is mark [] = record { joined = refl; lacking = refl; marked = λ c rest same. cc }
cut_is mark (c ∷ text) = cut_by (c == mark) mark c text (cut mark text) refl (cut_is mark text)

-- a value is read from its written form
pub if_written_own : {A : Type 0} (text : List ℕ) (value : A) → if_written text text value ≡ Some value
if_written_own text value = ap (λ b. cond b (Some value) None) ((bytes_decides text text).1 refl)

written_by : {A : Type 0} (b : Bool) (written text : List ℕ) (value given : A)
    → pointwise nat_eq written text ≡ b → cond b (Some value) None ≡ Some given
    → (written ≡ text) × (value ≡ given)
written_by true written text value given same e = ((bytes_decides written text).0 same, cc)
written_by false written text value given same e = cc

-- a value that was read has this written form
pub if_written_gave : {A : Type 0} (written text : List ℕ) (value given : A)
    → if_written written text value ≡ Some given → (written ≡ text) × (value ≡ given)
if_written_gave written text value given e = written_by _ written text value given refl e

-- a byte of a text whose bytes all pass a test passes it
pub passes : (p : ℕ → Bool) (text : List ℕ) (c : ℕ) → IsTrue (list_all p text) → Contains text c → p c ≡ true
passes p text c h among = All-contains (λ b. p b ≡ true) text c (AllPass-from_list_all p text h) among

-- a text that lacks a mark does not contain it
pub lacks-Contains : (mark : ℕ) (text : List ℕ) → IsTrue (lacks mark text) → ¬ Contains text mark
lacks-Contains mark text h among =
    let other = passes (λ c. not (c == mark)) text mark h among in
    cc (byte_itself mark, other)

unlike : (b : Bool) (p : ℕ → Bool) (mark c : ℕ) → (c == mark) ≡ b → p mark ≡ false → p c ≡ true → not b ≡ true
unlike true p mark c e h k = let is : c ≡ mark = grind (arith, nat_tests) in cc
unlike false p mark c e h k = refl

-- a text whose bytes all pass a test lacks every mark that does not pass it
pub lacks_by : (p : ℕ → Bool) (mark : ℕ) → p mark ≡ false → (text : List ℕ) → IsTrue (list_all p text)
    → IsTrue (lacks mark text)
lacks_by p mark h [] k = refl
lacks_by p mark h (c ∷ text) k =
    let first = unlike (c == mark) p mark c refl h (first_so (p c) (list_all p text) k) in
    let rest = lacks_by p mark h text (second_so (p c) (list_all p text) k) in
    λ i. first i && rest i

-- The lines of a text are those that it was joined from, and children read one by one are the written ones.
use Rattle.std.proofs.Common.{◌≡◌, ℕ, List, [], ◌∷◌, ◌++◌, refl, ap, ◌∙◌, Option, Some, None, Bool, true, false, cond, append_assoc, map}
use Rattle.std.specs.Prelude.{IsTrue, ◌==◌, ◌&&◌, not}
use Rattle.std.proofs.lemmas.Bool.{eqb-true}
use Rattle.std.specs.Cmp.{first_so, second_so}
use Rattle.std.specs.List.{list_all, AllByRecursion}
use Rattle.rs_fixity.specs.Cut.{lacks}
use Rattle.rs_caps.proofs.FromBelow.{then_some}
use Rattle.rs_lists.specs.Text.{joined}
use Rattle.rs_caps.specs.Cut.{◌>>=◌, lines_of, onto_lines}
use Rattle.rs_caps.specs.Reads.{read_children}
use Rattle.rs_caps.proofs.Steps.{same_bytes-itself}

-- a line has no line feed
abbrev pub IsLine : List ℕ → Type 0
IsLine l = IsTrue (lacks 10 l)

abbrev pub AreLines : List (List ℕ) → Type 0
AreLines lines = IsTrue (list_all (lacks 10) lines)

-- a piece without one, before pieces without one
pub onto : (piece : List ℕ) (rest : Bool) → IsLine piece → IsTrue rest → IsTrue (lacks 10 piece && rest)
onto piece rest h k = λ i. h i && k i

next_byte : (b : Bool) (c : ℕ) (o : Option (List (List ℕ))) (l : List ℕ) (lines : List (List ℕ)) → (not b && lacks 10 l) ≡ true
    → (lacks 10 l ≡ true → o ≡ Some (l ∷ lines)) → onto_lines b c o ≡ Some ((c ∷ l) ∷ lines)
next_byte true c o l lines h next = cc
next_byte false c o l lines h next = ap (onto_lines false c) (next h)

one_line : (l text : List ℕ) (lines : List (List ℕ)) → IsLine l → lines_of text ≡ Some lines → lines_of (l ++ 10 ∷ text) ≡ Some (l ∷ lines)
unfolding lines_of
one_line [] text lines h e = ap (onto_lines true 10) e
one_line (c ∷ l) text lines h e = next_byte (c == 10) c (lines_of (l ++ 10 ∷ text)) l lines h (λ k. one_line l text lines k e)

pub lines_of-joined : (lines : List (List ℕ)) → AreLines lines → lines_of (joined lines) ≡ Some lines
unfolding lines_of
lines_of-joined [] h = refl
lines_of-joined (l ∷ lines) h =
    ap lines_of (append_assoc l (10 ∷ []) (joined lines))
    ∙ one_line l (joined lines) lines (first_so (lacks 10 l) _ h) (lines_of-joined lines (second_so (lacks 10 l) _ h))

-- and back
after_byte : (b : Bool) (c : ℕ) (text : List ℕ) (o : Option (List (List ℕ))) (lines : List (List ℕ)) → (c == 10) ≡ b
    → ((more : List (List ℕ)) → o ≡ Some more → text ≡ joined more) → onto_lines b c o ≡ Some lines → c ∷ text ≡ joined lines
after_byte b c text None lines e next h = cc
after_byte true c text (Some more) lines e next h =
    let is : [] ∷ more ≡ lines = cc in
    ap (λ x. x ∷ text) (eqb-true c 10 e) ∙ ap (λ l. 10 ∷ l) (next more refl) ∙ ap joined is
after_byte false c text (Some []) lines e next h = cc
after_byte false c text (Some (l ∷ more)) lines e next h =
    let is : (c ∷ l) ∷ more ≡ lines = cc in
    ap (λ l. c ∷ l) (next (l ∷ more) refl) ∙ ap joined is

pub lines_of-exact : (text : List ℕ) (lines : List (List ℕ)) → lines_of text ≡ Some lines → text ≡ joined lines
unfolding lines_of
lines_of-exact [] lines h = let none : [] ≡ lines = cc in ap joined none
lines_of-exact (c ∷ text) lines h = after_byte (c == 10) c text (lines_of text) lines refl (λ more e. lines_of-exact text more e) h

-- children and the line that closes them
pub children_lines : {A : Type 0} (write : A → List ℕ) (end : List ℕ) (xs : List A) → AllByRecursion (λ x. IsLine (write x)) xs
    → IsLine end → AreLines (map write xs ++ end ∷ [])
children_lines write end [] h k = onto end true k refl
children_lines write end (x ∷ xs) h k = onto (write x) _ h.0 (children_lines write end xs h.1 k)

pub read_children-map : {A B : Type 0} (read : List ℕ → Option B) (write : A → List ℕ) (value : A → B) (end : List ℕ) (xs : List A)
    → AllByRecursion (λ x. read (write x) ≡ Some (value x)) xs → read_children read end (map write xs ++ end ∷ []) ≡ Some (map value xs)
unfolding read_children
read_children-map read write value end [] h = ap (λ b. cond b (Some []) None) (same_bytes-itself end)
read_children-map read write value end (x ∷ []) h =
    then_some (read (write x)) _ (value x) _ h.0
    (ap (λ (o : Option (List _)). o >>= λ ys. Some (value x ∷ ys)) (read_children-map read write value end [] h.1))
read_children-map read write value end (x ∷ y ∷ xs) h =
    then_some (read (write x)) _ (value x) _ h.0
    (ap (λ (o : Option (List _)). o >>= λ ys. Some (value x ∷ ys)) (read_children-map read write value end (y ∷ xs) h.1))

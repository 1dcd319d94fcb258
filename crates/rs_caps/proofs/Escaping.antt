-- An escaped text is read back, and a text that reads was escaped.
use Rattle.std.proofs.Common.{◌≡◌, ℕ, suc, zero, ◌≤◌, List, [], ◌∷◌, ◌++◌, length, refl, sym, ap, ◌∙◌, arith, Option, Some, None, Bool, true, false, cond, length-append, subst}
use Rattle.std.specs.Prelude.{codes, ◌==◌, ◌||◌}
use Rattle.std.proofs.lemmas.Bool.{eqb-true}
use Rattle.std.proofs.lemmas.Bool.Decides.{nat_tests}
use Rattle.rs_caps.proofs.FromBelow.{then_gave}
use Rattle.rs_lists.specs.Escape.{escaped, escape}
use Rattle.rs_caps.specs.Cut.{◌>>=◌, strip, reference_to, reference, character, characters, unescape}
use Rattle.rs_caps.proofs.Steps.{either_gave, strip_gave}

-- these bytes read as the character c, and then the rest is read
abbrev ReadsAs : ℕ → ℕ → List ℕ → List ℕ → Type 0
ReadsAs turns c rest bytes = characters (suc turns) (bytes ++ rest) ≡ (characters turns rest >>= λ more. Some (c ∷ more))

plain : (turns c : ℕ) (rest : List ℕ) → (c == 38) ≡ false → (c == 39) ≡ false → (c == 34) ≡ false → (c == 62) ≡ false
    → (c == 60) ≡ false → ReadsAs turns c rest (c ∷ [])
unfolding characters
plain turns c rest p q r s t = rw (p, q, r, s, t) refl

at : (turns c k : ℕ) (rest bytes : List ℕ) → (c == k) ≡ true → ReadsAs turns k rest bytes → ReadsAs turns c rest bytes
at turns c k rest bytes e h = let is : k ≡ c = grind (arith, nat_tests) in let P : ℕ → Type 0 =
    λ n. ReadsAs turns n rest bytes in subst P is h

by_tests : (turns c : ℕ) (rest : List ℕ) (a b d e f : Bool) → (c == 38) ≡ a → (c == 39) ≡ b → (c == 34) ≡ d → (c == 62) ≡ e → (c == 60) ≡ f
    → ReadsAs turns c rest (cond a (codes "&amp;")
    (cond b (codes "&apos;") (cond d (codes "&quot;") (cond e (codes "&gt;") (cond f (codes "&lt;") (c ∷ []))))))
unfolding characters strip
by_tests turns c rest true b d e f p q r s t = at turns c 38 rest (codes "&amp;") p refl
by_tests turns c rest false true d e f p q r s t = at turns c 39 rest (codes "&apos;") q refl
by_tests turns c rest false false true e f p q r s t = at turns c 34 rest (codes "&quot;") r refl
by_tests turns c rest false false false true f p q r s t = at turns c 62 rest (codes "&gt;") s refl
by_tests turns c rest false false false false true p q r s t = at turns c 60 rest (codes "&lt;") t refl
by_tests turns c rest false false false false false p q r s t = plain turns c rest p q r s t

escaped_reads : (turns c : ℕ) (rest : List ℕ) → ReadsAs turns c rest (escaped c)
escaped_reads turns c rest = by_tests turns c rest (c == 38) (c == 39) (c == 34) (c == 62) (c == 60) refl refl refl refl refl

not_empty : (c : ℕ) (a b d e f : Bool)
    → 1 ≤ length (cond a (codes "&amp;")
    (cond b (codes "&apos;") (cond d (codes "&quot;") (cond e (codes "&gt;") (cond f (codes "&lt;") (c ∷ []))))))
not_empty c true b d e f = omega arith
not_empty c false true d e f = omega arith
not_empty c false false true e f = omega arith
not_empty c false false false true f = omega arith
not_empty c false false false false true = omega arith
not_empty c false false false false false = omega arith

not_shorter : (text : List ℕ) → length text ≤ length (escape text)
not_shorter [] = omega arith
not_shorter (c ∷ text) = omega
    (arith, not_shorter text, not_empty c (c == 38) (c == 39) (c == 34) (c == 62) (c == 60), length-append (escaped c) (escape text))

in_turns : (turns : ℕ) (text : List ℕ) → length text ≤ turns → characters turns (escape text) ≡ Some text
unfolding characters
in_turns turns [] h = refl
in_turns zero (c ∷ text) h = absurd (omega arith)
in_turns (suc turns) (c ∷ text) h =
    escaped_reads turns c (escape text) ∙ ap (λ (o : Option (List ℕ)). o >>= λ more. Some (c ∷ more)) (in_turns turns text (omega arith))

pub unescape-escape : (text : List ℕ) → unescape (escape text) ≡ Some text
unescape-escape text = in_turns (length (escape text)) text (not_shorter text)

-- and back: the characters are these, and escaped they are the text
reference_exact : (c : ℕ) (name text : List ℕ) (one : ℕ × List ℕ) → reference_to c name text ≡ Some one
    → (c ≡ one.0) × (38 ∷ text ≡ (38 ∷ name) ++ one.1)
reference_exact c name text one h =
    let rest = then_gave (strip name text) (λ rest. Some (c, rest)) one h in
    let number : c ≡ one.0 = cc (rest.2) in
    let after : rest.0 ≡ one.1 = cc (rest.2) in
    (number, ap (λ l. 38 ∷ l) (strip_gave name text rest.0 rest.1 ∙ ap (λ l. name ++ l) after))

-- the text begins with this character, escaped
abbrev IsWrittenAs : List ℕ → ℕ × List ℕ → Type 0
IsWrittenAs text one = text ≡ escaped one.0 ++ one.1

written_as : (c : ℕ) (name text : List ℕ) (one : ℕ × List ℕ) → escaped c ≡ 38 ∷ name → reference_to c name text ≡ Some one
    → IsWrittenAs (38 ∷ text) one
written_as c name text one e h =
    let read = reference_exact c name text one h in
    read.1 ∙ ap (λ l. l ++ one.1) (sym e) ∙ ap (λ x. escaped x ++ one.1) read.0

any_reference : (text : List ℕ) (one : ℕ × List ℕ) → reference text ≡ Some one → IsWrittenAs (38 ∷ text) one
any_reference text one =
    let P : Type 0 = IsWrittenAs (38 ∷ text) one in
    either_gave P (reference_to 38 (codes "amp;") text) _ one (written_as 38 (codes "amp;") text one refl)
    (either_gave P (reference_to 39 (codes "apos;") text) _ one (written_as 39 (codes "apos;") text one refl)
    (either_gave P (reference_to 34 (codes "quot;") text) _ one (written_as 34 (codes "quot;") text one refl)
    (either_gave P (reference_to 62 (codes "gt;") text) (reference_to 60 (codes "lt;") text) one
    (written_as 62 (codes "gt;") text one refl) (written_as 60 (codes "lt;") text one refl))))

character_exact : (c : ℕ) (text : List ℕ) (one : ℕ × List ℕ) (a b d e f : Bool) → (c == 38) ≡ a → (c == 39) ≡ b → (c == 34) ≡ d
    → (c == 62) ≡ e → (c == 60) ≡ f
    → cond a (reference text) (cond (b || d || e || f) None (Some (c, text))) ≡ Some one → IsWrittenAs (c ∷ text) one
character_exact c text one true b d e f p q r s t h = ap (λ x. x ∷ text) (eqb-true c 38 p) ∙ any_reference text one h
character_exact c text one false true d e f p q r s t h = cc
character_exact c text one false false true e f p q r s t h = cc
character_exact c text one false false false true f p q r s t h = cc
character_exact c text one false false false false true p q r s t h = cc
character_exact c text one false false false false false p q r s t h =
    let same : escaped c ≡ c ∷ [] = rw (p, q, r, s, t) refl in
    let byte : c ≡ one.0 = cc in
    let rest : text ≡ one.1 = cc in
    ap (λ l. l ++ text) (sym same) ∙ ap (λ x. escaped x ++ text) byte ∙ ap (λ l. escaped one.0 ++ l) rest

in_turns_exact : (turns : ℕ) (text value : List ℕ) → characters turns text ≡ Some value → text ≡ escape value
unfolding characters
in_turns_exact turns [] value h = let none : value ≡ [] = cc in ap escape (sym none)
in_turns_exact zero (c ∷ text) value h = cc
in_turns_exact (suc turns) (c ∷ text) value h =
    let one = then_gave (character c text) (λ one. characters turns one.1 >>= λ rest. Some (one.0 ∷ rest)) value h in
    let rest = then_gave (characters turns one.0.1) (λ rest. Some (one.0.0 ∷ rest)) value one.2 in
    let all : one.0.0 ∷ rest.0 ≡ value = cc (rest.2) in
    character_exact c text one.0 (c == 38) (c == 39) (c == 34) (c == 62) (c == 60) refl refl refl refl refl one.1
    ∙ ap (λ l. escaped one.0.0 ++ l) (in_turns_exact turns one.0.1 rest.0 rest.1) ∙ ap escape all

pub unescape-exact : (text value : List ℕ) → unescape text ≡ Some value → text ≡ escape value
unescape-exact text value h = in_turns_exact (length text) text value h

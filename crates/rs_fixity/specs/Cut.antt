-- Cutting values out of texts.
use Rattle.std.specs.Prelude.{ℕ, Bool, not, ◌==◌, nat_eq, if◌then◌else◌, List, [], ◌∷◌, Option, Some, None}
use Rattle.std.specs.List.{list_all}
use Rattle.std.specs.Cmp.Lexicographic.{pointwise}

-- the next step, where this one gave a value
infixl 10 ◌>>=◌
abbrev pub ◌>>=◌ : {A B : Type 0} → Option A → (A → Option B) → Option B
None >>= f = None
(Some x) >>= f = f x

-- the rest of a text that begins with these bytes
unfoldable pub strip : List ℕ → List ℕ → Option (List ℕ)
strip [] text = Some text
strip (p ∷ ps) [] = None
strip (p ∷ ps) (c ∷ text) = if c == p then strip ps text else None

-- a pair of texts with one byte more at the head of the first
abbrev pub with_first : ℕ → List ℕ × List ℕ → List ℕ × List ℕ
with_first c r = (c ∷ r.0, r.1)

-- the bytes before the first mark, and the rest from it on
unfoldable pub cut : ℕ → List ℕ → List ℕ × List ℕ
cut mark [] = ([], [])
cut mark (c ∷ text) = if c == mark then ([], c ∷ text) else with_first c (cut mark text)

-- no byte of the text is the mark
abbrev pub lacks : ℕ → List ℕ → Bool
lacks mark text = list_all (λ c. not (c == mark)) text

-- a value, if the text is its written form
abbrev pub if_written : {A : Type 0} → List ℕ → List ℕ → A → Option A
if_written written text value = if pointwise nat_eq written text then Some value else None

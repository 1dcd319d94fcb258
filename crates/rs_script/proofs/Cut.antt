-- An input is cut into lines in one way.
use Rattle.std.proofs.Common.{◌≡◌, ◌≢◌, ℕ, List, [], ◌∷◌, ◌++◌, refl, sym, ◌∙◌, append_assoc}
use Rattle.std.proofs.lemmas.List.Elements.{All-head, All-tail}
use Rattle.std.specs.List.{All, flat_map}
use Rattle.rs_script.specs.Lines.{Splits, HasNoBreak, with_break}

first_break : (a b x y : List ℕ) → HasNoBreak a → HasNoBreak b → a ++ 10 ∷ x ≡ b ++ 10 ∷ y → (a ≡ b) × (x ≡ y)
first_break [] [] x y h k e = (refl, cc)
first_break [] (c ∷ b) x y h k e = absurd (All-head (λ z. z ≢ 10) c b k (cc))
first_break (c ∷ a) [] x y h k e = absurd (All-head (λ z. z ≢ 10) c a h (cc))
first_break (c ∷ a) (d ∷ b) x y h k e =
    let more : a ++ 10 ∷ x ≡ b ++ 10 ∷ y = cc in
    let same = first_break a b x y (All-tail (λ z. z ≢ 10) c a h) (All-tail (λ z. z ≢ 10) d b k) more in
    let tails : a ≡ b = same.0 in
    (cc, same.1)

no_break_in : (a b x : List ℕ) → HasNoBreak a → a ≡ b ++ 10 ∷ x → ⊥
no_break_in [] [] x h e = cc
no_break_in [] (c ∷ b) x h e = cc
no_break_in (c ∷ a) [] x h e = All-head (λ z. z ≢ 10) c a h (cc)
no_break_in (c ∷ a) (d ∷ b) x h e = no_break_in a b x (All-tail (λ z. z ≢ 10) c a h) (cc)

opened : (raw : List ℕ) (raws : List (List ℕ)) (rest : List ℕ)
    → flat_map with_break (raw ∷ raws) ++ rest ≡ raw ++ 10 ∷ (flat_map with_break raws ++ rest)
opened raw raws rest = append_assoc (raw ++ 10 ∷ []) (flat_map with_break raws) rest ∙ append_assoc raw (10 ∷ []) (flat_map with_break raws ++ rest)

cut_once : (raws others : List (List ℕ)) (rest tail : List ℕ) → All HasNoBreak raws → All HasNoBreak others → HasNoBreak rest → HasNoBreak tail
    → flat_map with_break raws ++ rest ≡ flat_map with_break others ++ tail → (raws ≡ others) × (rest ≡ tail)
cut_once [] [] rest tail h k n m e = (refl, e)
cut_once [] (o ∷ os) rest tail h k n m e = absurd (no_break_in rest o (flat_map with_break os ++ tail) n (e ∙ opened o os tail))
cut_once (r ∷ rs) [] rest tail h k n m e = absurd (no_break_in tail r (flat_map with_break rs ++ rest) m (sym e ∙ opened r rs rest))
cut_once (r ∷ rs) (o ∷ os) rest tail h k n m e =
    let first = first_break r o (flat_map with_break rs ++ rest) (flat_map with_break os ++ tail) (All-head HasNoBreak r rs h) (All-head HasNoBreak o os k)
    (sym (opened r rs rest) ∙ e ∙ opened o os tail) in
    let more = cut_once rs os rest tail (All-tail HasNoBreak r rs h) (All-tail HasNoBreak o os k) n m first.1 in
    let heads : r ≡ o = first.0 in
    let tails : rs ≡ os = more.0 in
    (cc, more.1)

pub Splits-once : (input : List ℕ) (raws others : List (List ℕ)) (rest tail : List ℕ)
    → Splits input raws rest → Splits input others tail → (raws ≡ others) × (rest ≡ tail)
Splits-once input raws others rest tail s t = cut_once raws others rest tail s.each t.each s.partial t.partial (sym s.whole ∙ t.whole)

-- The first line feed in bytes.
use Rattle.std.proofs.Common.{◌≡◌, ◌≢◌, ◌∷◌, [], ◌++◌, ◌==◌, ◌+◌, ◌<◌, ℕ, length, take, drop, get_or, List, Some, None, true, false, arith, sym, ap, ◌∙◌, append_assoc, length-take}
use Rattle.std.specs.List.{position}
use Rattle.std.proofs.lemmas.Grind.{common_steps}
use Rattle.std.proofs.lemmas.Bool.Decides.{nat_tests}
use Rattle.std.proofs.lemmas.List.{take_more}
use Rattle.std.proofs.lemmas.List.Sums.{fails_before_first, passes_at_first}
use Rattle.std.proofs.lemmas.List.Elements.{All-from_get_or}
use Rattle.rs_script.specs.Lines.{HasNoBreak, with_break}
use Rattle.rs_script.proofs.FromBelow.{position-some, position-none}

not_break : (b : ℕ) → (b == 10) ≡ false → b ≢ 10
not_break b h = λ e. absurd (grind (arith, nat_tests))

is_break : (b : ℕ) → (b == 10) ≡ true → b ≡ 10
is_break b h = grind (arith, nat_tests)

-- there is no line feed before it
pub before_break : (bytes : List ℕ) (i : ℕ) → position (λ b. b == 10) bytes ≡ Some i → HasNoBreak (take i bytes)
before_break bytes i e =
    let at = position-some (λ b. b == 10) bytes i e in
    All-from_get_or (λ b. b ≢ 10) (take i bytes) 0 (λ k lt.
    let below : k < i = omega (arith, length-take i bytes, lt) in
    let fails : (get_or bytes k 0 == 10) ≡ false = fails_before_first (λ b. b == 10) bytes k 0 (omega (arith, at.0, below)) in
    let same : get_or (take i bytes) k 0 ≡ get_or bytes k 0 = grind (arith, common_steps) in
    rw same (not_break (get_or bytes k 0) fails))

-- there is no line feed at all
pub no_break : (bytes : List ℕ) → position (λ b. b == 10) bytes ≡ None → HasNoBreak bytes
no_break bytes e =
    let none = position-none (λ b. b == 10) bytes e in
    All-from_get_or (λ b. b ≢ 10) bytes 0 (λ k lt.
    not_break (get_or bytes k 0) (fails_before_first (λ b. b == 10) bytes k 0 (omega (arith, none, lt))))

-- the bytes are those before it, itself, and those after it
pub cut_at_break : (bytes : List ℕ) (i : ℕ) → position (λ b. b == 10) bytes ≡ Some i → bytes ≡ with_break (take i bytes) ++ drop (i + 1) bytes
cut_at_break bytes i e =
    let at = position-some (λ b. b == 10) bytes i e in
    let lt : i < length bytes = at.1 in
    let passes : (get_or bytes i 0 == 10) ≡ true = rw at.0 at (passes_at_first (λ b. b == 10) bytes 0 (omega (arith, at.0))) in
    let here : get_or bytes i 0 ≡ 10 = is_break (get_or bytes i 0) passes in
    let front : take (i + 1) bytes ≡ take i bytes ++ get_or bytes i 0 ∷ [] = take_more bytes i 0 lt in
    let whole : bytes ≡ take (i + 1) bytes ++ drop (i + 1) bytes = grind (arith, common_steps) in
    whole ∙ ap (λ z. z ++ drop (i + 1) bytes) (front ∙ ap (λ b. take i bytes ++ b ∷ []) here)

-- in a piece whose front has been used
pub piece_cut : (piece used rest : List ℕ) (i : ℕ) → piece ≡ used ++ rest → position (λ b. b == 10) rest ≡ Some i
    → piece ≡ (used ++ with_break (take i rest)) ++ drop (i + 1) rest
piece_cut piece used rest i e found =
    e ∙ ap (λ z. used ++ z) (cut_at_break rest i found) ∙ sym (append_assoc used (with_break (take i rest)) (drop (i + 1) rest))

-- Escaping a list byte by byte and run by run.
use Rattle.std.proofs.Common.{◌≡◌, ℕ, suc, ◌+◌, ◌-◌, ◌≤◌, ◌<◌, List, [], ◌∷◌, ◌++◌, Option, take, drop, length, get_or, sym, ap, ◌∙◌, append_assoc, append-nil, length-drop, take-append-drop, add-one, subst, arith}
use Rattle.std.specs.Io.KnownBytes.{Appends}
use Rattle.std.proofs.KnownBytes.{Appends-trans}
use Rattle.std.proofs.Math.Seq.{take-suc}
use Rattle.std.proofs.lemmas.List.{get_or-drop, take_all}
use Rattle.std.proofs.lemmas.Grind.{flat_map-append}
use Rattle.rs_lists.specs.Escape.{escape, escaped}

-- one byte more
pub escape-next : (bytes : List ℕ) (i : ℕ) → i < length bytes → escape (take (i + 1) bytes) ≡ escape (take i bytes) ++ escaped (get_or bytes i 0)
escape-next bytes i h =
    let more : take (i + 1) bytes ≡ take i bytes ++ get_or bytes i 0 ∷ [] = rw add-one (take-suc bytes i 0 h) in
    ap escape more ∙ flat_map-append escaped (take i bytes) (get_or bytes i 0 ∷ []) ∙ ap (λ l. escape (take i bytes) ++ l) (append-nil (escaped (get_or bytes i 0)))

-- a run of bytes that stay unchanged, with one byte more
run-next : (bytes : List ℕ) (start i : ℕ) → start ≤ i → i < length bytes → take (i + 1 - start) (drop start bytes) ≡ take (i - start) (drop start bytes) ++ get_or bytes i 0 ∷ []
run-next bytes start i k h =
    let step : i + 1 - start ≡ suc (i - start) = omega arith in
    let place : start + (i - start) ≡ i = omega arith in
    let room : i - start < length (drop start bytes) = omega (arith, length-drop start bytes) in
    let same : get_or (drop start bytes) (i - start) 0 ≡ get_or bytes i 0 = get_or-drop start bytes (i - start) 0 ∙ ap (λ j. get_or bytes j 0) place in
    ap (λ n. take n (drop start bytes)) step ∙ take-suc (drop start bytes) (i - start) 0 room ∙ ap (λ x. take (i - start) (drop start bytes) ++ x ∷ []) same

-- a run and a reference were written
pub reference_written : (a b d e : Option (List ℕ)) (bytes reference : List ℕ) (start i : ℕ) → i < length bytes → escaped (get_or bytes i 0) ≡ reference
    → escape (take i bytes) ≡ escape (take start bytes) ++ take (i - start) (drop start bytes)
    → Appends a b (escape (take start bytes)) → Appends b d (take (i - start) (drop start bytes)) → Appends d e reference → Appends a e (escape (take (i + 1) bytes))
reference_written a b d e bytes reference start i h r run p q s =
    let whole : (escape (take start bytes) ++ take (i - start) (drop start bytes)) ++ reference ≡ escape (take (i + 1) bytes) =
    ap (λ l. l ++ reference) (sym run) ∙ ap (λ l. escape (take i bytes) ++ l) (sym r) ∙ sym (escape-next bytes i h) in
    subst (Appends a e) whole (Appends-trans a d e _ _ (Appends-trans a b d _ _ p q) s)

-- the run is empty
pub run_over : (bytes : List ℕ) (j : ℕ) → escape (take j bytes) ≡ escape (take j bytes) ++ take (j - j) (drop j bytes)
run_over bytes j =
    let none : j - j ≡ 0 = omega arith in sym (ap (λ n. escape (take j bytes) ++ take n (drop j bytes)) none ∙ append-nil (escape (take j bytes)))

-- a byte that stays unchanged makes the run longer
pub run_on : (bytes : List ℕ) (start i : ℕ) → start ≤ i → i < length bytes → escaped (get_or bytes i 0) ≡ get_or bytes i 0 ∷ []
    → escape (take i bytes) ≡ escape (take start bytes) ++ take (i - start) (drop start bytes)
    → escape (take (i + 1) bytes) ≡ escape (take start bytes) ++ take (i + 1 - start) (drop start bytes)
run_on bytes start i k h r run =
    let run_before = take (i - start) (drop start bytes) in
    escape-next bytes i h ∙ ap (λ l. l ++ escaped (get_or bytes i 0)) run ∙ ap (λ l. (escape (take start bytes) ++ run_before) ++ l) r
    ∙ append_assoc (escape (take start bytes)) run_before (get_or bytes i 0 ∷ []) ∙ ap (λ l. escape (take start bytes) ++ l) (sym (run-next bytes start i k h))

-- the bytes written, and a run followed by the rest of the bytes
pub run_within : (bytes : List ℕ) (start i : ℕ) → escape (take i bytes) ≡ escape (take start bytes) ++ take (i - start) (drop start bytes)
    → escape (take start bytes) ++ (take (i - start) (drop start bytes) ++ escape (drop i bytes)) ≡ escape bytes
run_within bytes start i run =
    sym (append_assoc (escape (take start bytes)) (take (i - start) (drop start bytes)) (escape (drop i bytes))) ∙ ap (λ l. l ++ escape (drop i bytes)) (sym run)
    ∙ sym (flat_map-append escaped (take i bytes) (drop i bytes)) ∙ ap escape (take-append-drop i bytes)

-- the same with a reference before it
pub reference_within : (bytes reference : List ℕ) (start i : ℕ) → i < length bytes → escaped (get_or bytes i 0) ≡ reference
    → escape (take i bytes) ≡ escape (take start bytes) ++ take (i - start) (drop start bytes)
    → (escape (take start bytes) ++ take (i - start) (drop start bytes)) ++ (reference ++ escape (drop (i + 1) bytes)) ≡ escape bytes
reference_within bytes reference start i h r run =
    let rest = escape (drop (i + 1) bytes) in
    ap (λ l. l ++ (reference ++ rest)) (sym run) ∙ sym (append_assoc (escape (take i bytes)) reference rest) ∙ ap (λ l. (escape (take i bytes) ++ l) ++ rest) (sym r)
    ∙ ap (λ l. l ++ rest) (sym (escape-next bytes i h)) ∙ sym (flat_map-append escaped (take (i + 1) bytes) (drop (i + 1) bytes)) ∙ ap escape (take-append-drop (i + 1) bytes)

-- the last run
pub last_run : (bytes : List ℕ) (start i : ℕ) → length bytes ≤ i → escape (take i bytes) ≡ escape (take start bytes) ++ take (i - start) (drop start bytes)
    → escape (take start bytes) ++ take (length bytes - start) (drop start bytes) ≡ escape bytes
last_run bytes start i h run =
    let few = length-drop start bytes in
    let all : length (drop start bytes) ≤ i - start = omega (arith, few) in
    let same : take (length bytes - start) (drop start bytes) ≡ take (i - start) (drop start bytes) = take_all (length bytes - start) (drop start bytes) (omega (arith, few)) ∙ sym (take_all (i - start) (drop start bytes) all) in
    ap (λ l. escape (take start bytes) ++ l) same ∙ sym run ∙ ap escape (take_all i bytes h)

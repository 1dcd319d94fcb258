-- The number of decimal digits of a number.
use Rattle.std.proofs.Common.{◌≡◌, ℕ, suc, zero, ◌+◌, ◌*◌, ◌/◌, ◌%◌, ◌^◌, ◌≤◌, ◌<◌, [], ◌∷◌, length, ap, ◌∙◌, length-append, arith}
use Rattle.std.specs.Fmt.{decimal}
use Rattle.std.proofs.lemmas.Fmt.{decimal_step, decimal_nonempty, length-decimal-le}

power_positive : (k : ℕ) → 0 < 10 ^ k
power_positive zero = omega arith
power_positive (suc k) = let h = power_positive k in let e : 10 ^ suc k ≡ 10 * 10 ^ k = grind arith in omega arith

-- a number from 10^k on has more than k digits
digits_above : (k n : ℕ) → 10 ^ k ≤ n → n < 2 ^ 64 → k < length (decimal n)
digits_above zero n h w = decimal_nonempty n w
digits_above (suc k) n h w =
    let p : 10 * 10 ^ k ≤ n = omega arith in
    let q : 10 ^ k ≤ n / 10 = omega arith in
    let r : 0 < 10 ^ k = power_positive k in
    let last : length (decimal n) ≡ length (decimal (n / 10)) + 1 =
    ap length (decimal_step n (omega arith) w) ∙ length-append (decimal (n / 10)) ((48 + n % 10) ∷ []) in
    let rest : k < length (decimal (n / 10)) = digits_above k (n / 10) q (omega arith) in
    omega arith

pub length-decimal : (k n : ℕ) → 10 ^ k ≤ n → n < 10 * 10 ^ k → n < 2 ^ 64 → length (decimal n) ≡ k + 1
length-decimal k n low high w =
    let below : n < 10 ^ suc k = omega arith in
    let most = length-decimal-le (suc k) n (omega arith) below w in
    let least = digits_above k n low w in
    omega arith

-- Eighteen digits fit.
use Rattle.std.proofs.Common.{ℕ, ◌+◌, ◌*◌, ◌<◌, ◌≤◌, ◌^◌, arith}
use Rattle.std.proofs.Math.Nat.{pow-le-pow_right}
use Rattle.rs_record.proofs.decimal.number.Goals as goal

small : (v i : ℕ) → v < 10 ^ i → i ≤ 17 → v * 10 + 9 < 2 ^ 64
small v i h le =
    let p : 10 ^ i ≤ 10 ^ 17 = pow-le-pow_right {n = 10} (omega arith) le in
    omega arith

pub overflow_mul-value : goal.overflow_mul-value
overflow_mul-value c =
    let h = small c.loop-byte.value c.loop-byte.byte-index c.loop-byte.invariant.bound (omega arith) in
    omega (arith, h)

pub overflow_add-value : goal.overflow_add-value
overflow_add-value c =
    let h = small c.loop-byte.value c.loop-byte.byte-index c.loop-byte.invariant.bound (omega arith) in
    omega (arith, h, c.if-not-is_ascii_digit.ensures.cases)

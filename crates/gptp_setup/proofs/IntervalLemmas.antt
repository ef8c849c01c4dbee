-- How long an interval of messages is.
use Rattle.std.proofs.Common.{◌≤◌, ℕ, zero, suc, ◌+◌, ◌*◌, ◌/◌, ◌^◌, ℤ, pos, negsuc, ◌≤ℤ◌, arith}
use Rattle.std.proofs.lemmas.Int.{ints}
use Rattle.std.proofs.lemmas.Nat.{le-div, pow_pos}
use Rattle.std.proofs.Math.Nat.{div-le_self, div-mul-le_self, mul-le-mul_left, pow-le-pow_right}
use Rattle.gptp_setup.specs.Intervals.{IsLog, interval_of}

-- no interval is empty, and none is above sixteen seconds
pub interval_within : (log : ℤ) → IsLog log → (1 ≤ interval_of log) × (interval_of log ≤ 16000000000)
interval_within (pos zero) k = (omega arith, omega arith)
interval_within (pos (suc zero)) k = (omega arith, omega arith)
interval_within (pos (suc (suc zero))) k = (omega arith, omega arith)
interval_within (pos (suc (suc (suc zero)))) k = (omega arith, omega arith)
interval_within (pos (suc (suc (suc (suc zero))))) k = (omega arith, omega arith)
interval_within (pos (suc (suc (suc (suc (suc n)))))) k = let high = k.high in absurd (omega (arith, ints))
interval_within (negsuc zero) k = (omega arith, omega arith)
interval_within (negsuc (suc zero)) k = (omega arith, omega arith)
interval_within (negsuc (suc (suc zero))) k = (omega arith, omega arith)
interval_within (negsuc (suc (suc (suc zero)))) k = (omega arith, omega arith)
interval_within (negsuc (suc (suc (suc (suc n))))) k = let low = k.low in absurd (omega (arith, ints))

pub interval_positive : (log : ℤ) → IsLog log → 1 ≤ interval_of log
interval_positive log k = (interval_within log k).0

pub interval_most : (log : ℤ) → IsLog log → interval_of log ≤ 16000000000
interval_most log k = (interval_within log k).1

-- a larger logarithm is a longer interval, if not the same
pub interval_rises : (a b : ℤ) → a ≤ℤ b → interval_of a ≤ interval_of b
interval_rises (pos m) (pos n) h =
    let less : m ≤ n = omega (arith, ints) in
    let power : 2 ^ m ≤ 2 ^ n = pow-le-pow_right (omega arith) less in
    mul-le-mul_left 1000000000 power
interval_rises (pos m) (negsuc n) h = absurd (omega (arith, ints))
interval_rises (negsuc m) (pos n) h =
    let part = div-le_self 1000000000 (2 ^ (m + 1)) in
    let one = pow_pos n in omega arith
interval_rises (negsuc m) (negsuc n) h =
    let less : n + 1 ≤ m + 1 = omega (arith, ints) in
    let q : ℕ = 1000000000 / 2 ^ (m + 1) in
    let power : 2 ^ (n + 1) ≤ 2 ^ (m + 1) = pow-le-pow_right (omega arith) less in
    let smaller : q * 2 ^ (n + 1) ≤ q * 2 ^ (m + 1) = mul-le-mul_left q power in
    let whole : q * 2 ^ (m + 1) ≤ 1000000000 = div-mul-le_self 1000000000 (2 ^ (m + 1)) in
    le-div q 1000000000 (2 ^ (n + 1)) (pow_pos (n + 1)) (omega arith)

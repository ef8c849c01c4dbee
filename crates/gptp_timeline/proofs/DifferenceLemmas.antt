-- Differences of times, as numbers of 128 bits.
use Rattle.std.proofs.Common.{◌≡◌, ◌≤◌, ◌^◌, ℤ, ◌-ℤ◌, FitsSigned, to_z, of_z, unsigned_abs, arith}
use Rattle.std.proofs.lemmas.Int.{ints, to_z-of_z}
use Rattle.gptp_scaled.specs.ScaledNs.{FitsScaled}
use mir.Syntax.{w128}

pub difference : (a b c : ℤ) → FitsScaled a → FitsScaled b → unsigned_abs c ≤ 2 ^ 96
    → to_z w128 (of_z w128 (to_z w128 (of_z w128 a)
    -ℤ to_z w128 (of_z w128 (to_z w128 (of_z w128 b) -ℤ to_z w128 (of_z w128 c)))))
    ≡ a -ℤ (b -ℤ c)
difference a b c x y z =
    let first : FitsSigned w128 a = omega (arith, ints, x.low, x.high) in
    let second : FitsSigned w128 b = omega (arith, ints, y.low, y.high) in
    let third : FitsSigned w128 c = omega (arith, ints, z) in
    let inner : FitsSigned w128 (b -ℤ c) = omega (arith, ints, y.low, y.high, z) in
    let outer : FitsSigned w128 (a -ℤ (b -ℤ c)) = omega (arith, ints, x.low, x.high, y.low, y.high, z) in
    rw (to_z-of_z w128 a first, to_z-of_z w128 b second, to_z-of_z w128 c third, to_z-of_z w128 (b -ℤ c) inner)
    (to_z-of_z w128 (a -ℤ (b -ℤ c)) outer)

-- what is taken away last fits, too
pub difference_fits : (a b c : ℤ) → FitsScaled a → FitsScaled b → unsigned_abs c ≤ 2 ^ 96
    → FitsSigned w128 (to_z w128 (of_z w128 a)
    -ℤ to_z w128 (of_z w128 (to_z w128 (of_z w128 b) -ℤ to_z w128 (of_z w128 c))))
difference_fits a b c x y z =
    let first : FitsSigned w128 a = omega (arith, ints, x.low, x.high) in
    let second : FitsSigned w128 b = omega (arith, ints, y.low, y.high) in
    let third : FitsSigned w128 c = omega (arith, ints, z) in
    let inner : FitsSigned w128 (b -ℤ c) = omega (arith, ints, y.low, y.high, z) in
    let outer : FitsSigned w128 (a -ℤ (b -ℤ c)) = omega (arith, ints, x.low, x.high, y.low, y.high, z) in
    rw (to_z-of_z w128 a first, to_z-of_z w128 b second, to_z-of_z w128 c third, to_z-of_z w128 (b -ℤ c) inner) outer

use Rattle.std.proofs.Common.{◌≡◌, ℕ, ◌^◌, ◌+◌, ◌%◌, ℤ, pos, negsuc, neg_ℤ, ◌+ℤ◌, ◌-ℤ◌, ◌*ℤ◌, ◌<ℤ◌, ◌*◌, ◌-◌, ◌<◌, unsigned_abs, FitsSigned, to_z, of_z, ap, ◌∙◌, refl, arith}
use Rattle.std.specs.Int.{Width, w32, w128, int_div_euclid, int_max}
use Rattle.std.proofs.lemmas.Int.{ints, clamps, to_z-of_z, to_z_pos}
use Rattle.std.proofs.lemmas.Nat.{mod_below}
use Rattle.std.proofs.Math.Nat.{div-le_self}
use Rattle.gptp_scaled.specs.Floor.{floor_div}
use Rattle.gptp_scaled.specs.Rate.{FitsRate, unit, clamped, scaled_by, unscaled_by, neighbor_rate_of}
use Rattle.gptp_scaled.specs.ScaledNs.{FitsScaled}
use Rattle.gptp_scaled.specs.TimeStamp.{drawn_noise, grain, stamp_of}
use Rattle.gptp_scaled.proofs.FloorLemmas.{floor_is}
use Rattle.gptp_scaled.proofs.ProductLemmas.{IsWithin, times_within}
use Rattle.gptp_scaled.proofs.RateLemmas.{unscaled_parts}
use lib.Signed.{shr_z}

-- a number that went to bits and is read again
abbrev pub back : Width → ℤ → ℤ
back w z = to_z w (of_z w z)

-- a floor is no further away from 0 than its dividend
floor_within : (m : ℕ) (z d : ℤ) → pos 0 <ℤ d → IsWithin m z → IsWithin m (floor_div z d)
floor_within m (pos a) (pos k) h i = let l = div-le_self a k in
    record { low = omega (arith, ints); high = omega (arith, ints) }
floor_within m (negsuc a) (pos k) h i = let l = div-le_self a k in
    record { low = omega (arith, ints); high = omega (arith, ints) }
floor_within m z (negsuc k) h i = absurd (omega (arith, ints))

-- a shift of a signed number rounds down
shift_floors : (z : ℤ) (k : ℕ) → shr_z z k ≡ floor_div z (pos k)
shift_floors (pos a) k = refl
shift_floors (negsuc a) k = refl

-- what a span x of at most m, a rate q and their product are as 128 bits, where r is q of 32 bits
record Factors (m : ℕ) (q x r : ℤ) : Type 0 where
  time : back w128 x ≡ x
  rate : back w128 r ≡ q
  small : IsWithin (m * 2 ^ 31) (x *ℤ q)
  product : back w128 (x *ℤ q) ≡ x *ℤ q

-- they are so, where the product fits
factors : (m : ℕ) (q x r : ℤ) → m < 2 ^ 96 → FitsRate q → IsWithin m x → r ≡ back w32 q → Factors m q x r
factors m q x r few f g e =
    let s = times_within m (2 ^ 31) x q (omega (arith, ints)) (omega (arith, ints)) in
    record {
      time = to_z-of_z w128 x (omega (arith, ints));
      rate = ap (back w128) (e ∙ to_z-of_z w32 q f) ∙ to_z-of_z w128 q (omega (arith, ints));
      small = s;
      product = to_z-of_z w128 (x *ℤ q) (omega (arith, ints));
    }

-- what the machine numbers of `scaled` in src/rate.rt come to
pub scaled_back : (q x r : ℤ) → FitsRate q → IsWithin (2 ^ 96 - 1) x → r ≡ back w32 q
    → back w128 (back w128 x +ℤ back w128 (shr_z (back w128 (back w128 x *ℤ back w128 r)) (2 ^ 41))) ≡ scaled_by q x
scaled_back q x r f g e =
    let by = factors (2 ^ 96 - 1) q x r (omega (arith, ints)) f g e in
    let small = by.small in
    let floor = floor_is (x *ℤ q) unit (omega (arith, ints)) in
    let shifted : back w128 (floor_div (x *ℤ q) unit)
    ≡ floor_div (x *ℤ q) unit = to_z-of_z w128 (floor_div (x *ℤ q) unit) (omega (arith, ints)) in
    let sum : back w128 (scaled_by q x) ≡ scaled_by q x = to_z-of_z w128 (scaled_by q x) (omega (arith, ints)) in
    rw (by.time, by.rate, by.product, shift_floors, shifted) sum

-- and is not large
pub scaled_small : (q x : ℤ) → FitsRate q → IsWithin (2 ^ 96 - 1) x → unsigned_abs (scaled_by q x) < 2 ^ 97
scaled_small q x f g =
    let small = times_within (2 ^ 96 - 1) (2 ^ 31) x q (omega (arith, ints)) (omega (arith, ints)) in
    let floor = floor_is (x *ℤ q) unit (omega (arith, ints)) in
    omega (arith, ints)

-- s is the machine number that `unscaled` there divides out
abbrev pub IsDivided : ℤ → ℤ → ℤ → Type 0
IsDivided x r s =
    s ≡ int_div_euclid (back w128 (pos 0 -ℤ back w128 (back w128 x *ℤ back w128 r))) (back w128 (unit +ℤ back w128 r))

-- what they are where x is a time
time_factors : (q x r : ℤ) → FitsRate q → FitsScaled x → r ≡ back w32 q → Factors (2 ^ 95) q x r
time_factors q x r f g e =
    factors (2 ^ 95) q x r (omega (arith, ints)) f
    (record { low = omega (arith, ints); high = omega (arith, ints) }) e

-- what the quotient s of `unscaled` there is, where r is q of 32 bits
record Quotient (q x s : ℤ) : Type 0 where
  is : s ≡ floor_div (pos 0 -ℤ x *ℤ q) (unit +ℤ q)
  held : back w128 s ≡ s
  fits : FitsSigned w128 (x +ℤ s)

-- it is so
quotient : (q x r s : ℤ) → FitsRate q → FitsScaled x → r ≡ back w32 q → IsDivided x r s → Quotient q x s
quotient q x r s f g e h =
    let by = time_factors q x r f g e in
    let small = by.small in
    let negated : IsWithin (2 ^ 126) (pos 0 -ℤ x *ℤ q) =
    record { low = omega (arith, ints); high = omega (arith, ints) } in
    let dividend : back w128 (pos 0 -ℤ x *ℤ q)
    ≡ pos 0 -ℤ x *ℤ q = to_z-of_z w128 (pos 0 -ℤ x *ℤ q) (omega (arith, ints)) in
    let divisor : back w128 (unit +ℤ q) ≡ unit +ℤ q = to_z-of_z w128 (unit +ℤ q) (omega (arith, ints)) in
    let is : s ≡ floor_div (pos 0 -ℤ x *ℤ q) (unit +ℤ q) = rw (by.time, by.rate, by.product, dividend, divisor) at h in
    let floor = floor_within (2 ^ 126) (pos 0 -ℤ x *ℤ q) (unit +ℤ q) (omega (arith, ints)) negated in
    record { is = is; held = to_z-of_z w128 s (omega (arith, ints)); fits = omega (arith, ints) }

-- its sum with x fits
pub unscaled_fits : (q x r s : ℤ) → FitsRate q → FitsScaled x → r ≡ back w32 q → IsDivided x r s
    → FitsSigned w128 (back w128 x +ℤ back w128 s)
unscaled_fits q x r s f g e h =
    let by = quotient q x r s f g e h in
    rw ((time_factors q x r f g e).time, by.held) by.fits

-- and is what the contract says
pub unscaled_back : (q x r s : ℤ) → FitsRate q → FitsScaled x → r ≡ back w32 q → IsDivided x r s
    → back w128 (back w128 x +ℤ back w128 s) ≡ unscaled_by q x
unscaled_back q x r s f g e h =
    let by = quotient q x r s f g e h in
    rw ((time_factors q x r f g e).time, by.held) (to_z-of_z w128 (x +ℤ s) by.fits ∙ ap (λ v. x +ℤ v) by.is
    ∙ unscaled_parts q x f)

-- what the quotient s and the clamped r of `neighbor_rate` in src/rate.rt come to
pub neighbor_back : (gain elapsed s r : ℤ) → pos 0 <ℤ elapsed → FitsScaled elapsed → (gain *ℤ pos 4096) <ℤ elapsed
    → neg_ℤ elapsed <ℤ (gain *ℤ pos 4096)
    → s ≡ int_div_euclid (back w128 (back w128 gain *ℤ unit)) (back w128 elapsed) → r ≡ clamped (back w128 s)
    → back w32 (back w128 r) ≡ neighbor_rate_of gain elapsed
neighbor_back gain elapsed s r p f high low h e =
    let g : back w128 gain ≡ gain = to_z-of_z w128 gain (omega (arith, ints)) in
    let d : back w128 elapsed ≡ elapsed = to_z-of_z w128 elapsed (omega (arith, ints)) in
    let n : back w128 (gain *ℤ unit) ≡ gain *ℤ unit = to_z-of_z w128 (gain *ℤ unit) (omega (arith, ints)) in
    let is : s ≡ floor_div (gain *ℤ unit) elapsed = rw (g, n, d) at h in
    let small : IsWithin (2 ^ 126) (gain *ℤ unit) = record { low = omega (arith, ints); high = omega (arith, ints) } in
    let floor = floor_within (2 ^ 126) (gain *ℤ unit) elapsed p small in
    let held : back w128 s ≡ s = to_z-of_z w128 s (omega (arith, ints)) in
    let value : r ≡ neighbor_rate_of gain elapsed = e ∙ ap clamped (held ∙ is) in
    let wide : back w128 r ≡ r = to_z-of_z w128 r (omega (arith, ints, clamps)) in
    let narrow : back w32 r ≡ r = to_z-of_z w32 r (omega (arith, ints, clamps)) in
    ap (back w32) wide ∙ narrow ∙ value

-- ---- time stamps

-- what the machine numbers of `stamp_of` in src/time_stamp.rt come to: v is what is shown, f the noise, t both, r that
-- rounded, and m is not below 0
pub stamped_back : (g : ℕ) (z x v f t r m : ℤ) → FitsSigned w32 z → FitsScaled x → v ≡ x → f ≡ back w32 z
    → t ≡ back w128 (back w128 v +ℤ back w128 (pos 65536 *ℤ back w128 f))
    → r ≡ floor_div t (pos (grain g)) *ℤ pos (grain g) → unsigned_abs r < 2 ^ 98 → m ≡ int_max (back w128 r) (pos 0)
    → back w128 m ≡ stamp_of g z x
stamped_back g z x v f t r m fits held value from both rounded small greater =
    let noise : back w128 f ≡ z =
    ap (back w128) (from ∙ to_z-of_z w32 z fits) ∙ to_z-of_z w128 z (omega (arith, ints, fits)) in
    let shown : back w128 v ≡ x = ap (back w128) value ∙ to_z-of_z w128 x (omega (arith, ints, held)) in
    let product : back w128 (pos 65536 *ℤ z) ≡ pos 65536 *ℤ z =
    to_z-of_z w128 (pos 65536 *ℤ z) (omega (arith, ints, fits)) in
    let sum : back w128 (x +ℤ pos 65536 *ℤ z) ≡ x +ℤ pos 65536 *ℤ z =
    to_z-of_z w128 (x +ℤ pos 65536 *ℤ z) (omega (arith, ints, fits, held)) in
    let is : t ≡ x +ℤ pos 65536 *ℤ z = rw (shown, noise, product, sum) at both in
    let same : back w128 r ≡ r = to_z-of_z w128 r (omega (arith, ints, small)) in
    let above : m ≡ int_max (pos 0) r = omega (arith, ints, clamps, greater, same) in
    to_z-of_z w128 m (omega (arith, ints, clamps, above, small)) ∙ above
    ∙ ap (int_max (pos 0)) (rounded ∙ ap (λ v. floor_div v (pos (grain g)) *ℤ pos (grain g)) is)

-- and those of `drawn_noise`: f and k are the most noise
pub drawn_back : (most word f : ℕ) (k : ℤ) → most < 65536 → f ≡ most → k ≡ pos most
    → back w32 (to_z w32 (word % (2 * f + 1)) -ℤ back w32 k) ≡ drawn_noise most word
drawn_back most word f k few is same =
    let m : word % (2 * most + 1) < 2 * most + 1 = mod_below word (2 * most + 1) (omega arith) in
    let drawn : to_z w32 (word % (2 * most + 1)) ≡ pos (word % (2 * most + 1)) =
    to_z_pos w32 (word % (2 * most + 1)) (omega (arith, m, few)) in
    let held : back w32 (pos most) ≡ pos most = to_z-of_z w32 (pos most) (omega (arith, ints, few)) in
    rw (is, same, drawn, held) (to_z-of_z w32 (drawn_noise most word) (omega (arith, ints, m, few)))

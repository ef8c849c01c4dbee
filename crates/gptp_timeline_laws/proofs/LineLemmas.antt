-- Numbers near a line: on it nothing lies outside of what its ends are.
use Rattle.std.proofs.Common.{◌≡◌, ℕ, ◌*◌, ◌+◌, ◌≤◌, ◌<◌, ℤ, pos, negsuc, neg_ℤ, ◌+ℤ◌, ◌-ℤ◌, ◌*ℤ◌, ◌≤ℤ◌, ◌<ℤ◌, ap, arith}
use Rattle.std.proofs.lemmas.Int.{ints}
use Rattle.std.proofs.Math.Nat.{mul-le-mul_left}
use borrow.Author.Differences.{down, product_is, up}
use Rattle.gptp_scaled.proofs.ProductLemmas.{cancel, distribute, negated, swap, times_grows}

-- So many times a number is on a line at a time, but for so much below and above.
pub record IsNearLine (scale below above : ℕ) (base slope : ℤ) (time : ℕ) (value : ℤ) : Type 0 where
  pub low : (base +ℤ pos time *ℤ slope) ≤ℤ (pos scale *ℤ value +ℤ pos below)
  pub high : (pos scale *ℤ value) ≤ℤ (base +ℤ pos time *ℤ slope +ℤ pos above)

-- ---- a line is between its ends

-- it goes up or down
line_low : (slope bound base : ℤ) (first time last : ℕ) → first ≤ time → time ≤ last
    → bound ≤ℤ (base +ℤ pos first *ℤ slope) → bound ≤ℤ (base +ℤ pos last *ℤ slope)
    → bound ≤ℤ (base +ℤ pos time *ℤ slope)
line_low (pos n) bound base first time last early late at_first at_last =
    let more : n * first ≤ n * time = mul-le-mul_left n early in omega (arith, ints)
line_low (negsuc n) bound base first time last early late at_first at_last =
    let more : (n + 1) * time ≤ (n + 1) * last = mul-le-mul_left (n + 1) late in omega (arith, ints)

line_high : (slope bound base : ℤ) (first time last : ℕ) → first ≤ time → time ≤ last
    → (base +ℤ pos first *ℤ slope) ≤ℤ bound → (base +ℤ pos last *ℤ slope) ≤ℤ bound
    → (base +ℤ pos time *ℤ slope) ≤ℤ bound
line_high (pos n) bound base first time last early late at_first at_last =
    let more : n * time ≤ n * last = mul-le-mul_left n late in omega (arith, ints)
line_high (negsuc n) bound base first time last early late at_first at_last =
    let more : (n + 1) * first ≤ (n + 1) * time = mul-le-mul_left (n + 1) early in omega (arith, ints)

module _ (scale below above slack : ℕ) (base slope : ℤ) (some : 0 < scale)
    (room : below + above < (slack + 1) * scale)
    (first time last : ℕ) (early : first ≤ time) (late : time ≤ last) (at_first at_time at_last : ℤ)
    (near_first : IsNearLine scale below above base slope first at_first)
    (near_time : IsNearLine scale below above base slope time at_time)
    (near_last : IsNearLine scale below above base slope last at_last) where
  abbrev parts : ℤ
  parts = pos scale

  positive : pos 0 <ℤ parts
  positive = omega (arith, ints)

  -- what lies at or above a number at both ends lies above it between them, but for the slack
  pub stays_above : (low : ℤ) → low ≤ℤ at_first → low ≤ℤ at_last → low ≤ℤ (at_time +ℤ pos slack)
  stays_above low one other =
      let a = times_grows parts low at_first (omega (arith, ints)) one in
      let b = times_grows parts low at_last (omega (arith, ints)) other in
      let bound = parts *ℤ low -ℤ pos above in
      let line = line_low slope bound base first time last early late
      (omega (arith, ints, a, near_first.high)) (omega (arith, ints, b, near_last.high)) in
      let step = distribute parts at_time (pos (slack + 1)) in
      let c : (parts *ℤ low) <ℤ (parts *ℤ (at_time +ℤ pos (slack + 1))) =
      rw step (omega (arith, ints, line, near_time.low)) in
      let d = cancel parts low (at_time +ℤ pos (slack + 1)) positive c in
      omega (arith, ints, d)

  pub stays_below : (high : ℤ) → at_first ≤ℤ high → at_last ≤ℤ high → at_time ≤ℤ (high +ℤ pos slack)
  stays_below high one other =
      let a = times_grows parts at_first high (omega (arith, ints)) one in
      let b = times_grows parts at_last high (omega (arith, ints)) other in
      let bound = parts *ℤ high +ℤ pos below in
      let line = line_high slope bound base first time last early late
      (omega (arith, ints, a, near_first.low)) (omega (arith, ints, b, near_last.low)) in
      let step = distribute parts high (pos (slack + 1)) in
      let c : (parts *ℤ at_time) <ℤ (parts *ℤ (high +ℤ pos (slack + 1))) =
      rw step (omega (arith, ints, line, near_time.high)) in
      let d = cancel parts at_time (high +ℤ pos (slack + 1)) positive c in
      omega (arith, ints, d)

-- ---- lines made of lines

-- three factors may be grouped as one likes
pub grouped : (m s : ℕ) (v : ℤ) → pos m *ℤ (pos s *ℤ v) ≡ pos (m * s) *ℤ v
grouped m s v =
    let p = product_is (pos s) v in
    let p0 : m * up (pos s *ℤ v) ≡ m * (up (pos s) * up v + down (pos s) * down v) = ap (λ x. m * x) p.0 in
    let p1 : m * down (pos s *ℤ v) ≡ m * (up (pos s) * down v + down (pos s) * up v) = ap (λ x. m * x) p.1 in
    omega (arith, ints)

pub times_line : (m scale below above : ℕ) (base slope : ℤ) (time : ℕ) (value : ℤ)
    → IsNearLine scale below above base slope time value
    → IsNearLine (m * scale) (m * below) (m * above) (pos m *ℤ base) (pos m *ℤ slope) time value
times_line m scale below above base slope time value near =
    let d0 = distribute (pos m) base (pos time *ℤ slope) in
    let d1 = distribute (pos m) (pos scale *ℤ value) (pos below) in
    let d2 = distribute (pos m) (base +ℤ pos time *ℤ slope) (pos above) in
    let s = swap (pos m) (pos time) slope in
    let g = grouped m scale value in
    let l = times_grows (pos m) (base +ℤ pos time *ℤ slope) (pos scale *ℤ value +ℤ pos below) (omega (arith, ints))
    near.low in
    let h = times_grows (pos m) (pos scale *ℤ value) (base +ℤ pos time *ℤ slope +ℤ pos above) (omega (arith, ints))
    near.high in
    record {
      low = omega (arith, ints, d0, d1, s, g, l);
      high = omega (arith, ints, d0, d2, s, g, h);
    }

pub less_line : (scale below above below' above' : ℕ) (base slope base' slope' : ℤ) (time : ℕ) (value value' : ℤ)
    → IsNearLine scale below above base slope time value → IsNearLine scale below' above' base' slope' time value'
    → IsNearLine scale (below + above') (above + below') (base -ℤ base') (slope -ℤ slope') time (value -ℤ value')
less_line scale below above below' above' base slope base' slope' time value value' near near' =
    let d0 = distribute (pos time) slope (neg_ℤ slope') in
    let n0 = negated (pos time) slope' in
    let d1 = distribute (pos scale) value (neg_ℤ value') in
    let n1 = negated (pos scale) value' in
    let l = near.low in let h = near.high in let l' = near'.low in let h' = near'.high in
    record {
      low = omega (arith, ints, d0, n0, d1, n1, l, h');
      high = omega (arith, ints, d0, n0, d1, n1, h, l');
    }

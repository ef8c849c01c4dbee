-- What two looks say of the moments between them.
use Rattle.std.proofs.Common.{◌≡◌, ℕ, max, ◌*◌, ◌+◌, ◌≤◌, ℤ, pos, negsuc, neg_ℤ, ◌+ℤ◌, ◌-ℤ◌, ◌*ℤ◌, ◌≤ℤ◌, unsigned_abs, ap, ◌∙◌, refl, arith}
use Rattle.std.proofs.lemmas.Int.{ints}
use Rattle.std.proofs.Math.IntN.{*ℤ_comm}
use Rattle.gptp_scaled.specs.Floor.{floor_div, IsFloor}
use Rattle.gptp_scaled.specs.Rate.{FitsRate, unit}
use Rattle.gptp_scaled.proofs.FloorLemmas.{floor_is}
use Rattle.gptp_scaled.proofs.ProductLemmas.{distribute, negated, swap}
use Rattle.gptp_system.specs.Reading.{read_at}
use Rattle.gptp_system.specs.State.{local_time, SystemState}
use Rattle.gptp_system.specs.declared.reading.Reading.{Reading}
use Rattle.gptp_timeline_laws.specs.Looks.{ahead_by, error_by, ReadingLooksSuffice, SourceLooksSuffice}
use Rattle.gptp_timeline_laws.proofs.LineLemmas.{grouped, IsNearLine, less_line, stays_above, stays_below, times_line}

-- ---- the line of a clock

abbrev clock_base : SystemState → ℤ
clock_base s = pos (2199023255552 * (65536 * s.phase))

abbrev clock_slope : SystemState → ℤ
clock_slope s = pos 65536 *ℤ (unit +ℤ s.drift)

clock_line : (s : SystemState) (time : ℕ)
    → IsNearLine 2199023255552 2199023255551 0 (clock_base s) (clock_slope s) time (local_time s time)
clock_line s time =
    let f = floor_is (pos (65536 * time) *ℤ s.drift) unit (omega (arith, ints)) in
    let g = grouped time 65536 (unit +ℤ s.drift) in
    let c : pos (time * 65536) ≡ pos (65536 * time) = ap pos (omega arith) in
    let h : pos time *ℤ clock_slope s ≡ pos (65536 * time) *ℤ (unit +ℤ s.drift) =
    g ∙ ap (λ z. z *ℤ (unit +ℤ s.drift)) c in
    let d = distribute (pos (65536 * time)) unit s.drift in
    record {
      low = omega (arith, ints, h, d, f.passed);
      high = omega (arith, ints, h, d, f.reached);
    }

-- ---- that of what is read by a reading

abbrev read_base : ℤ → ℤ → ℤ → ℤ → ℕ → ℤ
read_base base ingress offset rate k = pos k *ℤ base -ℤ (unit *ℤ (unit *ℤ offset +ℤ ingress *ℤ rate))

scaled_line : (shown base slope ingress offset rate floor : ℤ) (time k : ℕ)
    → IsNearLine 2199023255552 2199023255551 0 base slope time shown → unit +ℤ rate ≡ pos k
    → IsFloor ((shown -ℤ ingress) *ℤ rate) unit floor
    → IsNearLine (2199023255552 * 2199023255552) (k * 2199023255551 + 2199023255552 * 2199023255551) 0
    (read_base base ingress offset rate k) (pos k *ℤ slope) time
    ((ingress -ℤ offset) +ℤ ((shown -ℤ ingress) +ℤ floor))
scaled_line shown base slope ingress offset rate floor time k clock is f =
    let near = times_line k 2199023255552 2199023255551 0 base slope time shown clock in
    let d0 = *ℤ_comm (shown -ℤ ingress) rate in
    let d1 = distribute rate shown (neg_ℤ ingress) in
    let n1 = negated rate ingress in
    let d2 = *ℤ_comm ingress rate in
    let d3 = distribute shown unit rate in
    let d4 = *ℤ_comm shown (unit +ℤ rate) in
    let d5 = *ℤ_comm shown rate in
    let d6 : (unit +ℤ rate) *ℤ shown ≡ pos k *ℤ shown = ap (λ z. z *ℤ shown) is in
    let g = grouped k 2199023255552 shown in
    let g' : pos k *ℤ (pos 2199023255552 *ℤ shown) ≡ pos 2199023255552 *ℤ (pos k *ℤ shown) =
    swap (pos k) (pos 2199023255552) shown in
    let l = near.low in let h = near.high in let fr = f.reached in let fp = f.passed in
    record {
      low = omega (arith, ints, d0, d1, n1, d2, d3, d4, d5, d6, g, g', l, fp);
      high = omega (arith, ints, d0, d1, n1, d2, d3, d4, d5, d6, g, g', h, fr);
    }

read_line : (r : Reading) (own : SystemState) (time k : ℕ) → unit +ℤ r.rate ≡ pos k
    → IsNearLine (2199023255552 * 2199023255552) (k * 2199023255551 + 2199023255552 * 2199023255551) 0
    (read_base (clock_base own) r.ingress r.offset r.rate k) (pos k *ℤ clock_slope own) time
    (read_at r (local_time own time))
read_line r own time k is =
    scaled_line (local_time own time) (clock_base own) (clock_slope own) r.ingress r.offset r.rate
    (floor_div ((local_time own time -ℤ r.ingress) *ℤ r.rate) unit) time k (clock_line own time) is
    (floor_is ((local_time own time -ℤ r.ingress) *ℤ r.rate) unit (omega (arith, ints)))

-- ---- that of an error

error_line : (r : Reading) (own source : SystemState) (time k : ℕ) → unit +ℤ r.rate ≡ pos k
    → IsNearLine (2199023255552 * 2199023255552)
    (k * 2199023255551 + 2199023255552 * 2199023255551 + 2199023255552 * 0)
    (0 + 2199023255552 * 2199023255551)
    (read_base (clock_base own) r.ingress r.offset r.rate k -ℤ pos 2199023255552 *ℤ clock_base source)
    (pos k *ℤ clock_slope own -ℤ pos 2199023255552 *ℤ clock_slope source) time
    (read_at r (local_time own time) -ℤ local_time source time)
error_line r own source time k is =
    less_line (2199023255552 * 2199023255552) (k * 2199023255551 + 2199023255552 * 2199023255551) 0
    (2199023255552 * 2199023255551) (2199023255552 * 0)
    (read_base (clock_base own) r.ingress r.offset r.rate k) (pos k *ℤ clock_slope own)
    (pos 2199023255552 *ℤ clock_base source) (pos 2199023255552 *ℤ clock_slope source) time
    (read_at r (local_time own time)) (local_time source time) (read_line r own time k is)
    (times_line 2199023255552 2199023255552 2199023255551 0 (clock_base source) (clock_slope source) time
    (local_time source time) (clock_line source time))

-- a number that is at least 0 and less than another
natural : (z : ℤ) (most : ℕ) → pos 0 ≤ℤ z → z ≤ℤ pos most → (n : ℕ) × (z ≡ pos n) × (n ≤ most)
natural (pos n) most low high = (n, refl, omega (arith, ints))
natural (negsuc n) most low high = absurd (omega (arith, ints))

-- the base of a source moves what its clock makes of the error
moved_low : (low read shown base : ℤ) → low ≤ℤ (read -ℤ (shown +ℤ base)) → (low +ℤ base) ≤ℤ (read -ℤ shown)
moved_low low read shown base above = omega (arith, ints, above)

back_low : (low read shown base : ℤ) → (low +ℤ base) ≤ℤ ((read -ℤ shown) +ℤ pos 3)
    → low ≤ℤ ((read -ℤ (shown +ℤ base)) +ℤ pos 3)
back_low low read shown base above = omega (arith, ints, above)

moved_high : (high read shown base : ℤ) → (read -ℤ (shown +ℤ base)) ≤ℤ high → (read -ℤ shown) ≤ℤ (high +ℤ base)
moved_high high read shown base below = omega (arith, ints, below)

back_high : (high read shown base : ℤ) → (read -ℤ shown) ≤ℤ ((high +ℤ base) +ℤ pos 3)
    → (read -ℤ (shown +ℤ base)) ≤ℤ (high +ℤ pos 3)
back_high high read shown base below = omega (arith, ints, below)

module _ (r : Reading) (own source : SystemState) (base : ℤ) (first time last : ℕ) (fits : FitsRate r.rate)
    (early : first ≤ time) (late : time ≤ last) where
  rate : (n : ℕ) × (unit +ℤ r.rate ≡ pos n) × (n ≤ 4398046511104)
  rate = natural (unit +ℤ r.rate) 4398046511104 (omega (arith, ints)) (omega (arith, ints))

  -- without the base
  abbrev error_at : ℕ → ℤ
  error_at now = read_at r (local_time own now) -ℤ local_time source now

  -- the error is at least as high as at one end, but for three units
  pub reading_above : (low : ℤ) → low ≤ℤ error_by r own source base first → low ≤ℤ error_by r own source base last
      → low ≤ℤ (error_by r own source base time +ℤ pos 3)
  reading_above low one other =
      let (k, is, few) = rate in
      back_low low (read_at r (local_time own time)) (local_time source time) base
      (stays_above (2199023255552 * 2199023255552)
      (k * 2199023255551 + 2199023255552 * 2199023255551 + 2199023255552 * 0) (0 + 2199023255552 * 2199023255551) 3
      (read_base (clock_base own) r.ingress r.offset r.rate k -ℤ pos 2199023255552 *ℤ clock_base source)
      (pos k *ℤ clock_slope own -ℤ pos 2199023255552 *ℤ clock_slope source) (omega arith) (omega arith) first time last
      early late (error_at first) (error_at time) (error_at last)
      (error_line r own source first k is) (error_line r own source time k is) (error_line r own source last k is)
      (low +ℤ base) (moved_low low (read_at r (local_time own first)) (local_time source first) base one)
      (moved_low low (read_at r (local_time own last)) (local_time source last) base other))

  pub reading_below : (high : ℤ) → error_by r own source base first ≤ℤ high
      → error_by r own source base last ≤ℤ high → error_by r own source base time ≤ℤ (high +ℤ pos 3)
  reading_below high one other =
      let (k, is, few) = rate in
      back_high high (read_at r (local_time own time)) (local_time source time) base
      (stays_below (2199023255552 * 2199023255552)
      (k * 2199023255551 + 2199023255552 * 2199023255551 + 2199023255552 * 0) (0 + 2199023255552 * 2199023255551) 3
      (read_base (clock_base own) r.ingress r.offset r.rate k -ℤ pos 2199023255552 *ℤ clock_base source)
      (pos k *ℤ clock_slope own -ℤ pos 2199023255552 *ℤ clock_slope source) (omega arith) (omega arith) first time last
      early late (error_at first) (error_at time) (error_at last)
      (error_line r own source first k is) (error_line r own source time k is) (error_line r own source last k is)
      (high +ℤ base) (moved_high high (read_at r (local_time own first)) (local_time source first) base one)
      (moved_high high (read_at r (local_time own last)) (local_time source last) base other))

-- ---- two clocks

ahead_line : (a b : SystemState) (time : ℕ)
    → IsNearLine 2199023255552 (2199023255551 + 0) (0 + 2199023255551) (clock_base a -ℤ clock_base b)
    (clock_slope a -ℤ clock_slope b) time (local_time a time -ℤ local_time b time)
ahead_line a b time =
    less_line 2199023255552 2199023255551 0 2199023255551 0 (clock_base a) (clock_slope a) (clock_base b)
    (clock_slope b) time (local_time a time) (local_time b time) (clock_line a time) (clock_line b time)

-- bases move how far two clocks differ
apart_low : (low x y base base' : ℤ) → low ≤ℤ ((x +ℤ base) -ℤ (y +ℤ base')) → (low -ℤ (base -ℤ base')) ≤ℤ (x -ℤ y)
apart_low low x y base base' above = omega (arith, ints, above)

apart_back_low : (low x y base base' : ℤ) → (low -ℤ (base -ℤ base')) ≤ℤ ((x -ℤ y) +ℤ pos 1)
    → low ≤ℤ (((x +ℤ base) -ℤ (y +ℤ base')) +ℤ pos 1)
apart_back_low low x y base base' above = omega (arith, ints, above)

apart_high : (high x y base base' : ℤ) → ((x +ℤ base) -ℤ (y +ℤ base')) ≤ℤ high
    → (x -ℤ y) ≤ℤ (high -ℤ (base -ℤ base'))
apart_high high x y base base' below = omega (arith, ints, below)

apart_back_high : (high x y base base' : ℤ) → (x -ℤ y) ≤ℤ ((high -ℤ (base -ℤ base')) +ℤ pos 1)
    → ((x +ℤ base) -ℤ (y +ℤ base')) ≤ℤ (high +ℤ pos 1)
apart_back_high high x y base base' below = omega (arith, ints, below)

module _ (a b : SystemState) (base base' : ℤ) (first time last : ℕ) (early : first ≤ time) (late : time ≤ last) where
  -- without the bases
  abbrev ahead_at : ℕ → ℤ
  ahead_at now = local_time a now -ℤ local_time b now

  pub source_above : (low : ℤ) → low ≤ℤ ahead_by a b base base' first → low ≤ℤ ahead_by a b base base' last
      → low ≤ℤ (ahead_by a b base base' time +ℤ pos 1)
  source_above low one other =
      apart_back_low low (local_time a time) (local_time b time) base base'
      (stays_above 2199023255552 (2199023255551 + 0) (0 + 2199023255551) 1 (clock_base a -ℤ clock_base b)
      (clock_slope a -ℤ clock_slope b) (omega arith) (omega arith) first time last early late (ahead_at first)
      (ahead_at time) (ahead_at last) (ahead_line a b first) (ahead_line a b time) (ahead_line a b last)
      (low -ℤ (base -ℤ base')) (apart_low low (local_time a first) (local_time b first) base base' one)
      (apart_low low (local_time a last) (local_time b last) base base' other))

  pub source_below : (high : ℤ) → ahead_by a b base base' first ≤ℤ high → ahead_by a b base base' last ≤ℤ high
      → ahead_by a b base base' time ≤ℤ (high +ℤ pos 1)
  source_below high one other =
      apart_back_high high (local_time a time) (local_time b time) base base'
      (stays_below 2199023255552 (2199023255551 + 0) (0 + 2199023255551) 1 (clock_base a -ℤ clock_base b)
      (clock_slope a -ℤ clock_slope b) (omega arith) (omega arith) first time last early late (ahead_at first)
      (ahead_at time) (ahead_at last) (ahead_line a b first) (ahead_line a b time) (ahead_line a b last)
      (high -ℤ (base -ℤ base')) (apart_high high (local_time a first) (local_time b first) base base' one)
      (apart_high high (local_time a last) (local_time b last) base base' other))

-- ---- without their signs

pub size_low : (z : ℤ) (most : ℕ) → unsigned_abs z ≤ most → neg_ℤ (pos most) ≤ℤ z
size_low z most few = omega (arith, ints)

pub size_high : (z : ℤ) (most : ℕ) → unsigned_abs z ≤ most → z ≤ℤ pos most
size_high z most few = omega (arith, ints)

size_of : (z : ℤ) (most slack : ℕ) → neg_ℤ (pos most) ≤ℤ (z +ℤ pos slack) → z ≤ℤ (pos most +ℤ pos slack)
    → unsigned_abs z ≤ most + slack
size_of z most slack low high = omega (arith, ints)

pub reading_within : (r : Reading) (own source : SystemState) (base : ℤ) (first time last most : ℕ) → FitsRate r.rate
    → first ≤ time → time ≤ last → unsigned_abs (error_by r own source base first) ≤ most
    → unsigned_abs (error_by r own source base last) ≤ most → unsigned_abs (error_by r own source base time) ≤ most + 3
reading_within r own source base first time last most fits early late one other =
    size_of (error_by r own source base time) most 3
    (reading_above r own source base first time last fits early late (neg_ℤ (pos most))
    (size_low (error_by r own source base first) most one) (size_low (error_by r own source base last) most other))
    (reading_below r own source base first time last fits early late (pos most)
    (size_high (error_by r own source base first) most one) (size_high (error_by r own source base last) most other))

pub source_within : (a b : SystemState) (base base' : ℤ) (first time last most : ℕ) → first ≤ time → time ≤ last
    → unsigned_abs (ahead_by a b base base' first) ≤ most → unsigned_abs (ahead_by a b base base' last) ≤ most
    → unsigned_abs (ahead_by a b base base' time) ≤ most + 1
source_within a b base base' first time last most early late one other =
    size_of (ahead_by a b base base' time) most 1
    (source_above a b base base' first time last early late (neg_ℤ (pos most))
    (size_low (ahead_by a b base base' first) most one) (size_low (ahead_by a b base base' last) most other))
    (source_below a b base base' first time last early late (pos most)
    (size_high (ahead_by a b base base' first) most one) (size_high (ahead_by a b base base' last) most other))

-- ---- the laws

greater_low : (a b : ℕ) → a ≤ max a b
greater_low a b = omega arith

greater_high : (a b : ℕ) → b ≤ max a b
greater_high a b = omega arith

pub reading_looks : ReadingLooksSuffice
reading_looks r own source base first time last fits early late =
    let a = unsigned_abs (error_by r own source base first) in
    let b = unsigned_abs (error_by r own source base last) in
    reading_within r own source base first time last (max a b) fits early late (greater_low a b) (greater_high a b)

pub source_looks : SourceLooksSuffice
source_looks a b base base' first time last early late =
    let x = unsigned_abs (ahead_by a b base base' first) in
    let y = unsigned_abs (ahead_by a b base base' last) in
    source_within a b base base' first time last (max x y) early late (greater_low x y) (greater_high x y)

-- What the machine numbers of src/sums.rt come to.
use Rattle.std.proofs.Common.{◌≡◌, ℕ, suc, ◌+◌, ◌-◌, ◌*◌, ◌<◌, ◌≤◌, ℤ, pos, neg_ℤ, ◌+ℤ◌, ◌-ℤ◌, ◌*ℤ◌, ◌≤ℤ◌, unsigned_abs, to_z, of_z, refl, sym, ap, subst, ◌∙◌, arith}
use Rattle.std.specs.Prelude.{min}
use Rattle.std.specs.Int.{Width, w32, w64, w128, div_ceil, int_div_euclid}
use Rattle.std.proofs.lemmas.Grind.{div_ceil_times}
use Rattle.std.proofs.lemmas.Int.{ints, to_z-of_z}
use Rattle.std.proofs.Math.Nat.{div-eq_of_lt-le}
use Rattle.gptp_scaled.specs.Counts.{IsClockRate}
use Rattle.gptp_scaled.specs.Floor.{floor_div}
use Rattle.gptp_scaled.specs.Rate.{IsNeighborRate, unit, rate_of}
use Rattle.gptp_pdelay.specs.Clock.{IsDrift}
use Rattle.gptp_pdelay.specs.GoodLink.{ceil_div}
use Rattle.gptp_pdelay.specs.Measured.{clock_rate}
use Rattle.gptp_pdelay.proofs.MeasurementLemmas.{clock_counts}
use Rattle.gptp_setup.specs.Intervals.{AreParams}
use Rattle.gptp_setup.specs.Stamping.{blur_of, rate_interval}
use Rattle.gptp_setup.specs.declared.setup.Params.{Params}
use Rattle.gptp_error_laws.specs.TimeError.{WayLink, hop_error}
use Rattle.gptp_accuracy.specs.Sums.{SumsAreWithin, IsLinkWithin, rates_error_of}
use Rattle.gptp_accuracy.specs.declared.sums.Sums.{Sums}
use Rattle.gptp_accuracy.proofs.SumLemmas.{IsBehind, blur_little, gain_high, gain_low, stay_within}

-- a number that went to bits and is read again
abbrev pub back : Width → ℤ → ℤ
back w z = to_z w (of_z w z)

pub drift_back : (drift : ℤ) → IsDrift drift → back w32 drift ≡ drift
drift_back drift is = to_z-of_z w32 drift (omega (arith, ints, is.low, is.high))

-- what a clock counts
pub count_back : (drift count wide : ℤ) → IsDrift drift → count ≡ pos (clock_rate (back w32 drift))
    → wide ≡ back w64 count → wide ≡ pos (clock_rate drift)
count_back drift count wide is e f =
    let rate = clock_counts.rate drift is in
    let same : count ≡ pos (clock_rate drift) = e ∙ ap (λ d. pos (clock_rate d)) (drift_back drift is) in
    f ∙ ap (back w64) same ∙ to_z-of_z w64 (pos (clock_rate drift)) (omega (arith, ints, rate.high))

-- the quotient of `true_rate`
pub quotient_back : (a b : ℕ) (x y u q : ℤ) → IsClockRate a → IsClockRate b → x ≡ pos a → y ≡ pos b → u ≡ unit
    → q ≡ int_div_euclid (back w128 (back w128 (back w128 x -ℤ back w128 y) *ℤ back w128 u)) (back w128 y)
    → back w128 q ≡ floor_div ((pos a -ℤ pos b) *ℤ unit) (pos b)
quotient_back a b x y u q h k ex ey eu eq =
    let f = floor_div ((pos a -ℤ pos b) *ℤ unit) (pos b) in
    let clock : back w128 x ≡ pos a = ap (back w128) ex ∙ to_z-of_z w128 (pos a) (omega (arith, ints, h.high)) in
    let own : back w128 y ≡ pos b = ap (back w128) ey ∙ to_z-of_z w128 (pos b) (omega (arith, ints, k.high)) in
    let one : back w128 u ≡ unit = ap (back w128) eu ∙ to_z-of_z w128 unit (omega (arith, ints)) in
    let gain : back w128 (pos a -ℤ pos b) ≡ pos a -ℤ pos b =
    to_z-of_z w128 (pos a -ℤ pos b) (omega (arith, ints, h.high, k.high)) in
    let product : back w128 ((pos a -ℤ pos b) *ℤ unit) ≡ (pos a -ℤ pos b) *ℤ unit =
    to_z-of_z w128 ((pos a -ℤ pos b) *ℤ unit) (omega (arith, ints, h.high, k.high)) in
    let is : q ≡ f = rw (clock, own, one, gain, product) at eq in
    ap (back w128) is ∙ to_z-of_z w128 f (omega (arith, ints, gain_low a b h k, gain_high a b h k))

-- the quotient of `rate_error`, rounded up
ceil_is : (x d quotient : ℕ) → 0 < d → x ≤ quotient * d → quotient * d < x + d → quotient ≡ ceil_div x d
ceil_is x d quotient some reached passed =
    sym (div-eq_of_lt-le d (omega (arith, some, passed)) (omega (arith, some, reached)))

pub rounded_up : (x d : ℕ) → 0 < d → div_ceil x d ≡ ceil_div x d
rounded_up x d some =
    let times = div_ceil_times x d some in ceil_is x d (div_ceil x d) some times.0 times.1

-- the sum of `rates_error`
pub unlike_back : (s : Sums) (rate true : ℤ) (unlike : ℕ) → SumsAreWithin 511 s → rate ≡ back w64 s.rate
    → true ≡ floor_div ((pos (clock_rate (back w32 s.root_drift)) -ℤ pos (clock_rate (back w32 s.drift))) *ℤ unit)
    (pos (clock_rate (back w32 s.drift)))
    → neg_ℤ (pos 450000000) ≤ℤ true → true ≤ℤ pos 450000000
    → unlike ≡ unsigned_abs (back w128 (back w128 rate -ℤ back w128 true))
    → min (s.rate_error + unlike) 2587332284 ≡ rates_error_of s
unlike_back s rate true unlike within e f low high g =
    let summed : rate ≡ s.rate =
    e ∙ to_z-of_z w64 s.rate (omega (arith, ints, within.rate_low, within.rate_high)) in
    let wide : back w128 rate ≡ s.rate =
    ap (back w128) summed ∙ to_z-of_z w128 s.rate (omega (arith, ints, within.rate_low, within.rate_high)) in
    let kept : back w128 true ≡ true = to_z-of_z w128 true (omega (arith, ints, low, high)) in
    let apart : back w128 (s.rate -ℤ true) ≡ s.rate -ℤ true =
    to_z-of_z w128 (s.rate -ℤ true) (omega (arith, ints, within.rate_low, within.rate_high, low, high)) in
    let is : unlike ≡ unsigned_abs (s.rate -ℤ true) = rw (wide, kept, apart) at g in
    let root = drift_back s.root_drift within.root_drift in
    let own = drift_back s.drift within.drift in
    let true_is : true
    ≡ floor_div ((pos (clock_rate s.root_drift) -ℤ pos (clock_rate s.drift)) *ℤ unit) (pos (clock_rate s.drift)) =
    rw (root, own) at f in
    ap (λ n. min (s.rate_error + n) 2587332284) (is ∙ ap (λ z. unsigned_abs (s.rate -ℤ z)) true_is)

-- what `behind` is made of
pub record IsMade (p : Params) (s : Sums) (l : WayLink) (interval rate_error hop rates wait : ℕ)
    (steady rate : ℤ) : Type 0
  where
    pub interval_is : interval ≡ rate_interval p
    pub rate_error_is : rate_error
        ≡ min (ceil_div (2202000000000 * (l.most - l.least + 2 * blur_of p)) interval) 879609302 + 4
    pub steady_is : steady ≡ rate_of (pos (clock_rate (back w32 s.drift))) (pos (clock_rate (back w32 l.drift)))
    pub near : IsNeighborRate steady
    pub rate_is : rate ≡ back w32 steady
    pub hop_is : hop ≡ hop_error (l.most - l.least + 2 * blur_of p) (l.most + blur_of p) p.turnaround
    pub rates_is : rates ≡ rates_error_of s
    pub wait_is : wait ≡ ceil_div ((p.residence + s.jitter + (l.most + blur_of p)) * rates) 33550000

module _ (p : Params) (s : Sums) (l : WayLink) (interval rate_error hop rates wait : ℕ) (steady rate : ℤ)
    (ranges : AreParams p) (within : SumsAreWithin 511 s) (link : IsLinkWithin l)
    (made : IsMade p s l interval rate_error hop rates wait steady rate) where
  -- the sums that it gives
  abbrev pub given : Sums
  given = record {
    root_drift = back w32 s.root_drift;
    drift = back w32 l.drift;
    jitter = l.most - l.least + 2 * blur_of p;
    rate_error = s.rate_error + rate_error;
    rate = back w64 (back w64 s.rate +ℤ back w64 rate);
    error = s.error + hop + wait;
  }

  steady_back : rate ≡ steady
  steady_back = made.rate_is ∙ to_z-of_z w32 steady (omega (arith, ints, made.near.low, made.near.high))

  rate_back : given.rate ≡ s.rate +ℤ steady
  rate_back =
      let before : back w64 s.rate ≡ s.rate =
      to_z-of_z w64 s.rate (omega (arith, ints, within.rate_low, within.rate_high)) in
      let here : back w64 rate ≡ steady =
      ap (back w64) steady_back ∙ to_z-of_z w64 steady (omega (arith, ints, made.near.low, made.near.high)) in
      let sum : back w64 (s.rate +ℤ steady) ≡ s.rate +ℤ steady =
      to_z-of_z w64 (s.rate +ℤ steady)
      (omega (arith, ints, within.rate_low, within.rate_high, made.near.low, made.near.high)) in
      rw (before, here) sum

  pub is_behind : IsBehind p s l given
  is_behind =
      let own = drift_back s.drift within.drift in
      let next = drift_back l.drift link.drift in
      record {
        root_drift = drift_back s.root_drift within.root_drift;
        drift = next;
        jitter = refl;
        rate_error =
            ap (λ n. s.rate_error + n) (made.rate_error_is
            ∙ ap (λ n. min (ceil_div (2202000000000 * (l.most - l.least + 2 * blur_of p)) n) 879609302 + 4)
            made.interval_is);
        rate = rate_back ∙ ap (λ z. s.rate +ℤ z) (rw (own, next) at made.steady_is);
        error = ap (λ n. s.error + n + wait) made.hop_is
            ∙ ap (λ n. s.error + hop_error (l.most - l.least + 2 * blur_of p) (l.most + blur_of p) p.turnaround + n)
            (made.wait_is
            ∙ ap (λ n. ceil_div ((p.residence + s.jitter + (l.most + blur_of p)) * n) 33550000) made.rates_is);
      }

  pub given_within : (links : ℕ) → SumsAreWithin links s → rate_error ≤ 879609306 → hop ≤ 2000000000000000
      → wait ≤ 3000000000000 → SumsAreWithin (suc links) given
  given_within links so_far most few long =
      stay_within links s given so_far rate_error hop wait steady (drift_back s.root_drift within.root_drift)
      (subst IsDrift (sym (drift_back l.drift link.drift)) link.drift)
      (omega (arith, link.short, blur_little p ranges)) refl most rate_back
      made.near refl few long

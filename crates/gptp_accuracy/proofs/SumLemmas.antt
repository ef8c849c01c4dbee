-- The sums of a way that is one link longer.
use Rattle.std.proofs.Common.{◌≡◌, ℕ, zero, suc, ◌+◌, ◌-◌, ◌*◌, ◌≤◌, ℤ, pos, negsuc, ◌+ℤ◌, ◌-ℤ◌, ◌*ℤ◌, ◌≤ℤ◌, neg_ℤ, unsigned_abs, length, refl, sym, ap, subst, ◌∙◌, arith}
use Rattle.std.specs.Prelude.{min}
use Rattle.std.proofs.lemmas.Int.{ints}
use Rattle.std.proofs.Math.Nat.{mul-le-mul, zero-div}
use Rattle.gptp_scaled.specs.Floor.{floor_div}
use Rattle.gptp_scaled.specs.Rate.{IsNeighborRate, unit, rate_of}
use Rattle.gptp_scaled.specs.Counts.{IsClockRate}
use Rattle.gptp_scaled.proofs.FloorLemmas.{floor_above, floor_below}
use Rattle.gptp_pdelay.specs.Clock.{IsDrift}
use Rattle.gptp_pdelay.specs.GoodLink.{ceil_div}
use Rattle.gptp_pdelay.specs.Measured.{clock_rate}
use Rattle.gptp_correction.specs.Sum.{sum_below}
use Rattle.gptp_setup.specs.Intervals.{AreParams, IsLog, interval_of}
use Rattle.gptp_setup.specs.Stamping.{blur_of, rate_interval}
use Rattle.gptp_setup.specs.declared.setup.Params.{Params}
use Rattle.gptp_error_laws.specs.TimeError.{WayLink, Way, clock_at, drift_at, hop_error, hop_error_at, link_at, measured_jitter_at, measured_most_at, rate_error_at, rates_error_at, steady_rate_at, time_error, time_error_at, total_below, wait_error_at}
use Rattle.gptp_error_laws.specs.WayLaws.{longer}
use Rattle.gptp_error_laws.proofs.LongerLemmas.{clock_same, link_last, link_same, longer_length, parents_error_stays, rate_error_same, rates_same, steady_same, sum_same, total_same}
use Rattle.gptp_error_laws.proofs.WayLemmas.{time_error_goes_by_hops}
use Rattle.gptp_accuracy.specs.Readings.{jitter_after}
use Rattle.gptp_accuracy.specs.Sums.{AreSumsOf, SumsAreWithin, IsTimedBy, rates_error_of}
use Rattle.gptp_accuracy.specs.declared.sums.Sums.{Sums}

whole : (z : ℤ) → pos 0 ≤ℤ z → z ≡ pos (unsigned_abs z)
whole (pos n) h = refl
whole (negsuc n) h = absurd (omega (arith, ints, h))

-- a clock within the limit runs at a rate above 0
pub rate_is : (drift : ℤ) → IsDrift drift → unit +ℤ drift ≡ pos (clock_rate drift)
rate_is drift d = whole (unit +ℤ drift) (omega (arith, ints, d.low))

-- two clocks within the limit have no more than 450000000 units of rate against each other
pub gain_low : (a b : ℕ) → IsClockRate a → IsClockRate b
    → neg_ℤ (pos 450000000) ≤ℤ floor_div ((pos a -ℤ pos b) *ℤ unit) (pos b)
gain_low a b h k =
    floor_above ((pos a -ℤ pos b) *ℤ unit) (pos b) (neg_ℤ (pos 450000000)) (omega (arith, ints, k.low))
    (omega (arith, ints, h.low, k.low, k.high))

pub gain_high : (a b : ℕ) → IsClockRate a → IsClockRate b
    → floor_div ((pos a -ℤ pos b) *ℤ unit) (pos b) ≤ℤ pos 450000000
gain_high a b h k =
    floor_below ((pos a -ℤ pos b) *ℤ unit) (pos b) (pos 450000000) (omega (arith, ints, k.low))
    (omega (arith, ints, h.high, k.low, k.high))

-- an interval has a sixteenth of a second at least
pub interval_long : (log : ℤ) → IsLog log → 62500000 ≤ interval_of log
interval_long (pos zero) k = omega arith
interval_long (pos (suc zero)) k = omega arith
interval_long (pos (suc (suc zero))) k = omega arith
interval_long (pos (suc (suc (suc zero)))) k = omega arith
interval_long (pos (suc (suc (suc (suc zero))))) k = omega arith
interval_long (pos (suc (suc (suc (suc (suc n)))))) k = let high = k.high in absurd (omega (arith, ints))
interval_long (negsuc zero) k = omega arith
interval_long (negsuc (suc zero)) k = omega arith
interval_long (negsuc (suc (suc zero))) k = omega arith
interval_long (negsuc (suc (suc (suc zero)))) k = omega arith
interval_long (negsuc (suc (suc (suc (suc n))))) k = let low = k.low in absurd (omega (arith, ints))

-- a window has one exchange at least
pub window_long : (p : Params) → AreParams p → 62500000 ≤ rate_interval p
window_long p k =
    let least : 1 * 62500000 ≤ rate_interval p = mul-le-mul k.window-least (interval_long p.pdelay k.pdelay) in
    omega (arith, least)

-- two time stamps are 3000 ns off at most
pub blur_little : (p : Params) → AreParams p → blur_of p ≤ 3000
blur_little p k = let g = k.granularity in let n = k.noise in omega (arith, g, n)

-- the sums after one link more, by those before it
pub record IsBehind (p : Params) (s : Sums) (l : WayLink) (t : Sums) : Type 0 where
  pub root_drift : t.root_drift ≡ s.root_drift
  pub drift : t.drift ≡ l.drift
  pub jitter : t.jitter ≡ l.most - l.least + 2 * blur_of p
  pub rate_error : t.rate_error ≡ s.rate_error
      + (min (ceil_div (2202000000000 * (l.most - l.least + 2 * blur_of p)) (rate_interval p)) 879609302 + 4)
  pub rate : t.rate ≡ s.rate +ℤ rate_of (pos (clock_rate s.drift)) (pos (clock_rate l.drift))
  pub error : t.error ≡ s.error + hop_error (l.most - l.least + 2 * blur_of p) (l.most + blur_of p) p.turnaround
      + ceil_div ((p.residence + s.jitter + (l.most + blur_of p)) * rates_error_of s) 33550000

-- equal clocks have no rate against each other
no_gain : (n : ℕ) → floor_div ((pos n -ℤ pos n) *ℤ unit) (pos n) ≡ pos 0
no_gain n =
    let none : (pos n -ℤ pos n) *ℤ unit ≡ pos 0 = omega (arith, ints) in
    ap (λ z. floor_div z (pos n)) none ∙ ap pos (zero-div n)

-- a way that is one link longer has that link at its end
longer_last : (w : Way) (l : WayLink) → link_at (longer w l) (length w.links) ≡ l
longer_last w l = link_last w l (length w.links) refl

module _ (p : Params) (w : Way) (l : WayLink) (s : Sums) (timed : IsTimedBy p w) (sums : AreSumsOf w s) where
  -- the link as it is measured
  abbrev jitter : ℕ
  jitter = l.most - l.least + 2 * blur_of p

  abbrev most : ℕ
  most = l.most + blur_of p

  hop_is : hop_error_at (longer w l) (length w.links) ≡ hop_error jitter most p.turnaround
  hop_is =
      ap (λ (k : WayLink). hop_error (k.most - k.least + 2 * w.blur) (k.most + w.blur) w.turnaround) (longer_last w l)
      ∙ ap (λ b. hop_error (l.most - l.least + 2 * b) (l.most + b) w.turnaround) timed.blur
      ∙ ap (hop_error jitter most) timed.turnaround

  rate_error_is : total_below (length (longer w l).links) (rate_error_at (longer w l))
      ≡ s.rate_error + (min (ceil_div (2202000000000 * jitter) (rate_interval p)) 879609302 + 4)
  rate_error_is =
      let split = ap (λ n. total_below n (rate_error_at (longer w l))) (longer_length w l) in
      let before : total_below (length w.links) (rate_error_at (longer w l)) ≡ s.rate_error =
      total_same (length w.links) (rate_error_at (longer w l)) (rate_error_at w) (rate_error_same w l)
      ∙ sym sums.rate_error in
      let here : rate_error_at (longer w l) (length w.links)
      ≡ min (ceil_div (2202000000000 * jitter) (rate_interval p)) 879609302 + 4 =
      ap (λ (k : WayLink). min (ceil_div (2202000000000 * (k.most - k.least + 2 * w.blur)) w.interval) 879609302 + 4)
      (longer_last w l)
      ∙ ap (λ b. min (ceil_div (2202000000000 * (l.most - l.least + 2 * b)) w.interval) 879609302 + 4) timed.blur
      ∙ ap (λ i. min (ceil_div (2202000000000 * jitter) i) 879609302 + 4) timed.interval in
      split ∙ ap (λ n. n + rate_error_at (longer w l) (length w.links)) before ∙ ap (λ n. s.rate_error + n) here

  steady_is : steady_rate_at (longer w l) (length w.links)
      ≡ rate_of (pos (clock_rate s.drift)) (pos (clock_rate l.drift))
  steady_is =
      ap (λ n. rate_of (pos n) (pos (clock_at (longer w l) (suc (length w.links)))))
      (clock_same w l (length w.links) (omega arith) ∙ ap clock_rate (sym sums.drift))
      ∙ ap (λ (k : WayLink). rate_of (pos (clock_rate s.drift)) (pos (clock_rate k.drift))) (longer_last w l)

  rate_sum_is : sum_below (length (longer w l).links) (steady_rate_at (longer w l))
      ≡ s.rate +ℤ rate_of (pos (clock_rate s.drift)) (pos (clock_rate l.drift))
  rate_sum_is =
      let split = ap (λ n. sum_below n (steady_rate_at (longer w l))) (longer_length w l) in
      let before : sum_below (length w.links) (steady_rate_at (longer w l)) ≡ s.rate =
      sum_same (length w.links) (steady_rate_at (longer w l)) (steady_rate_at w) (steady_same w l) ∙ sym sums.rate in
      split ∙ ap (λ z. z +ℤ steady_rate_at (longer w l) (length w.links)) before ∙ ap (λ z. s.rate +ℤ z) steady_is

  -- the error of the rate so far, of a way with a link
  pub rates_error_is : (i : ℕ) → length w.links ≡ suc i → rates_error_of s ≡ rates_error_at w i
  rates_error_is i e =
      let of_rate : ℕ → ℕ → ℤ → ℕ = λ root own rate.
      unsigned_abs (rate -ℤ floor_div ((pos root -ℤ pos own) *ℤ unit) (pos own)) in
      let cut : ℕ → ℕ = λ n. min n 2587332284 in
      let root : clock_rate s.root_drift ≡ clock_at w 0 = ap clock_rate sums.root_drift in
      let own : clock_rate s.drift ≡ clock_at w (suc i) =
      ap clock_rate sums.drift ∙ ap (λ n. clock_at w n) e in
      let rate : s.rate ≡ sum_below (suc i) (steady_rate_at w) =
      sums.rate ∙ ap (λ n. sum_below n (steady_rate_at w)) e in
      let jitters : s.rate_error ≡ total_below (suc i) (rate_error_at w) =
      sums.rate_error ∙ ap (λ n. total_below n (rate_error_at w)) e in
      ap (λ n. cut (s.rate_error + n)) (ap (λ n. of_rate n (clock_rate s.drift) s.rate) root
      ∙ ap (λ n. of_rate (clock_at w 0) n s.rate) own ∙ ap (of_rate (clock_at w 0) (clock_at w (suc i))) rate)
      ∙ ap (λ n. cut (n + of_rate (clock_at w 0) (clock_at w (suc i)) (sum_below (suc i) (steady_rate_at w)))) jitters

  -- at the root there is none
  pub no_rates_error : length w.links ≡ 0 → rates_error_of s ≡ 0
  no_rates_error e =
      let jitters : s.rate_error ≡ 0 = sums.rate_error ∙ ap (λ n. total_below n (rate_error_at w)) e in
      let rate : s.rate ≡ pos 0 = sums.rate ∙ ap (λ n. sum_below n (steady_rate_at w)) e in
      let same : s.root_drift ≡ s.drift = sums.root_drift ∙ sym (sums.drift ∙ ap (drift_at w) e) in
      let own = clock_rate s.drift in
      let of_rate : ℤ → ℕ → ℕ = λ rate root. unsigned_abs (rate -ℤ floor_div ((pos root -ℤ pos own) *ℤ unit) (pos own))
      in
      let none : of_rate s.rate (clock_rate s.root_drift) ≡ 0 =
      ap (λ z. of_rate z (clock_rate s.root_drift)) rate ∙ ap (λ d. of_rate (pos 0) (clock_rate d)) same
      ∙ ap (λ z. unsigned_abs (pos 0 -ℤ z)) (no_gain own) in
      ap (λ n. min (n + of_rate s.rate (clock_rate s.root_drift)) 2587332284) jitters
      ∙ ap (λ n. min (0 + n) 2587332284) none

  error_is : (n : ℕ) → length w.links ≡ n → time_error (longer w l)
      ≡ s.error + hop_error jitter most p.turnaround
      + ceil_div ((p.residence + s.jitter + most) * rates_error_of s) 33550000
  error_is zero e =
      let split : time_error (longer w l) ≡ hop_error_at (longer w l) 0 =
      ap (time_error_at (longer w l)) ((longer_length w l) ∙ ap suc e) ∙ time_error_goes_by_hops.first (longer w l) in
      let hop : hop_error_at (longer w l) 0 ≡ hop_error jitter most p.turnaround =
      ap (λ n. hop_error_at (longer w l) n) (sym e) ∙ hop_is in
      let none : s.error ≡ 0 = sums.error ∙ ap (time_error_at w) e in
      let wait : ceil_div ((p.residence + s.jitter + most) * rates_error_of s) 33550000 ≡ 0 =
      ap (λ n. ceil_div ((p.residence + s.jitter + most) * n) 33550000) (no_rates_error e) ∙ omega arith in
      split ∙ hop ∙ added none wait
    where
      added : {a c h : ℕ} → a ≡ 0 → c ≡ 0 → h ≡ a + h + c
      added p q = omega (arith, p, q)
  error_is (suc i) e =
      let split : time_error (longer w l)
      ≡ time_error_at (longer w l) (suc i) + (hop_error_at (longer w l) (suc i) + wait_error_at (longer w l) i) =
      ap (time_error_at (longer w l)) ((longer_length w l) ∙ ap suc e) ∙ time_error_goes_by_hops.next (longer w l) i in
      let before : time_error_at (longer w l) (suc i) ≡ s.error =
      parents_error_stays w l (suc i) (omega (arith, e)) ∙ ap (time_error_at w) (sym e) ∙ sym sums.error in
      let hop : hop_error_at (longer w l) (suc i) ≡ hop_error jitter most p.turnaround =
      ap (λ n. hop_error_at (longer w l) n) (sym e) ∙ hop_is in
      let before_it : measured_jitter_at (longer w l) i ≡ s.jitter =
      ap (λ (k : WayLink). k.most - k.least + 2 * w.blur) (link_same w l i (omega (arith, e)))
      ∙ ap (jitter_after w) (sym e) ∙ sym sums.jitter in
      let last : link_at (longer w l) (suc i) ≡ l = ap (link_at (longer w l)) (sym e) ∙ (longer_last w l) in
      let rates : rates_error_at (longer w l) i ≡ rates_error_of s =
      rates_same w l i (omega (arith, e)) ∙ sym (rates_error_is i e) in
      let wait : wait_error_at (longer w l) i
      ≡ ceil_div ((p.residence + s.jitter + most) * rates_error_of s) 33550000 =
      ap (λ n. ceil_div ((n + measured_jitter_at (longer w l) i + measured_most_at (longer w l) (suc i))
      * rates_error_at (longer w l) i) 33550000) timed.residence
      ∙ ap (λ n. ceil_div ((p.residence + n + measured_most_at (longer w l) (suc i))
      * rates_error_at (longer w l) i) 33550000) before_it
      ∙ ap (λ (k : WayLink). ceil_div ((p.residence + s.jitter + (k.most + w.blur)) * rates_error_at (longer w l) i)
      33550000) last
      ∙ ap (λ b. ceil_div ((p.residence + s.jitter + (l.most + b)) * rates_error_at (longer w l) i) 33550000) timed.blur
      ∙ ap (λ n. ceil_div ((p.residence + s.jitter + most) * n) 33550000) rates in
      split ∙ parts before hop wait
    where
      parts : {a b c d h k : ℕ} → a ≡ d → b ≡ h → c ≡ k → a + (b + c) ≡ d + h + k
      parts p q r = omega (arith, p, q, r)

  -- the sums of the way that is one link longer
  pub sums_behind : (t : Sums) → IsBehind p s l t → AreSumsOf (longer w l) t
  sums_behind t is = record {
    root_drift = is.root_drift ∙ sums.root_drift;
    drift = is.drift
        ∙ sym (ap (drift_at (longer w l)) (longer_length w l) ∙ ap (λ (k : WayLink). k.drift) (longer_last w l));
    jitter = is.jitter
        ∙ sym (ap (jitter_after (longer w l)) (longer_length w l)
        ∙ ap (λ (k : WayLink). k.most - k.least + 2 * w.blur) (longer_last w l)
        ∙ ap (λ b. l.most - l.least + 2 * b) timed.blur);
    rate_error = is.rate_error ∙ sym rate_error_is;
    rate = is.rate ∙ sym rate_sum_is;
    error = is.error ∙ sym (error_is (length w.links) refl);
  }

-- sums within the limits stay so after a link within them
module _ (links : ℕ) (s t : Sums) (within : SumsAreWithin links s) where
  pub stay_within : (rate_error hop wait : ℕ) (rate : ℤ) → t.root_drift ≡ s.root_drift → IsDrift t.drift
      → t.jitter ≤ 16000006000 → t.rate_error ≡ s.rate_error + rate_error → rate_error ≤ 879609306
      → t.rate ≡ s.rate +ℤ rate → IsNeighborRate rate → t.error ≡ s.error + hop + wait → hop ≤ 2000000000000000
      → wait ≤ 3000000000000 → SumsAreWithin (suc links) t
  stay_within rate_error hop wait rate root drift jitter e most f near g few long = record {
    root_drift = subst IsDrift (sym root) within.root_drift;
    drift = drift;
    jitter = jitter;
    rate_error = omega (arith, e, most, within.rate_error);
    rate_low = omega (arith, ints, f, near.low, within.rate_low);
    rate_high = omega (arith, ints, f, near.high, within.rate_high);
    error = omega (arith, g, few, long, within.error);
  }

-- no more links than these
pub within_more : (links : ℕ) (s : Sums) → links ≤ 511 → SumsAreWithin links s → SumsAreWithin 511 s
within_more links s few within = record {
  root_drift = within.root_drift;
  drift = within.drift;
  jitter = within.jitter;
  rate_error = omega (arith, few, within.rate_error);
  rate_low = omega (arith, ints, few, within.rate_low);
  rate_high = omega (arith, ints, few, within.rate_high);
  error = omega (arith, few, within.error);
}

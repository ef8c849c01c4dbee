-- What is summed up on a way, and how large it can be.
use Rattle.std.specs.Prelude.{◌≡◌, ℕ, min, ◌+◌, ◌*◌, ◌-◌, ◌≤◌, neg_ℤ, pos, ◌-ℤ◌, ◌*ℤ◌, ◌≤ℤ◌, unsigned_abs, length}
use Rattle.gptp_scaled.specs.Floor.{floor_div}
use Rattle.gptp_scaled.specs.Rate.{unit}
use Rattle.gptp_pdelay.specs.Clock.{IsDrift}
use Rattle.gptp_pdelay.specs.Measured.{clock_rate}
use Rattle.gptp_correction.specs.Sum.{sum_below}
use Rattle.gptp_setup.specs.Stamping.{blur_of, rate_interval}
use Rattle.gptp_setup.specs.declared.setup.Params.{Params}
use Rattle.gptp_error_laws.specs.TimeError.{WayLink, Way, drift_at, rate_error_at, steady_rate_at, time_error, total_below}
use Rattle.gptp_accuracy.specs.Readings.{ReadingTerms, jitter_after}
use Rattle.gptp_accuracy.specs.declared.sums.Link.{Link as SummedLink}
use Rattle.gptp_accuracy.specs.declared.sums.Sums.{Sums}

-- a link as gptp_error_laws has it
abbrev pub way_link : SummedLink → WayLink
way_link l = record { least = l.least; most = l.most; drift = l.drift }

-- these are the sums of a way
pub record AreSumsOf (w : Way) (s : Sums) : Type 0 where
  pub root_drift : s.root_drift ≡ w.drift
  pub drift : s.drift ≡ drift_at w (length w.links)
  pub jitter : s.jitter ≡ jitter_after w (length w.links)
  pub rate_error : s.rate_error ≡ total_below (length w.links) (rate_error_at w)
  pub rate : s.rate ≡ sum_below (length w.links) (steady_rate_at w)
  pub error : s.error ≡ time_error w

-- the times of a way are those of a network
pub record IsTimedBy (p : Params) (w : Way) : Type 0 where
  pub blur : w.blur ≡ blur_of p
  pub interval : w.interval ≡ rate_interval p
  pub turnaround : w.turnaround ≡ p.turnaround
  pub residence : w.residence ≡ p.residence

-- the delays and the drift of a link are within the limits (profile)
pub record IsLinkWithin (l : WayLink) : Type 0 where
  pub ordered : l.least ≤ l.most
  pub short : l.most ≤ 16000000000
  pub drift : IsDrift l.drift

-- the error of the rate so far, in units of 2^-41; no rate of 32 bits misses that of two clocks by more than this
abbrev pub rates_error_of : Sums → ℕ
rates_error_of s =
    let root = pos (clock_rate s.root_drift) in
    let own = pos (clock_rate s.drift) in
    min (s.rate_error + unsigned_abs (s.rate -ℤ floor_div ((root -ℤ own) *ℤ unit) own)) 2587332284

-- what the error of a reading at the end of the way follows from
abbrev pub terms_of : Sums → ReadingTerms
terms_of s = record { error = s.error; jitter = s.jitter; rates_error = rates_error_of s }

-- Sums over so many links within the limits: each has a jitter of 16 s and two blurs at most, a rate error of 879609306
-- at most, a neighbour rate within 200 parts in a million and a time error of 3 * 10^15 at most.
pub record SumsAreWithin (links : ℕ) (s : Sums) : Type 0 where
  pub root_drift : IsDrift s.root_drift
  pub drift : IsDrift s.drift
  pub jitter : s.jitter ≤ 16000006000
  pub rate_error : s.rate_error ≤ links * 879609306
  pub rate_low : neg_ℤ (pos (links * 439804651)) ≤ℤ s.rate
  pub rate_high : s.rate ≤ℤ pos (links * 439804651)
  pub error : s.error ≤ links * 3000000000000000

-- the sums of a way with so many links and these times, all within the limits
pub record AreSummed (links : ℕ) (p : Params) (w : Way) (s : Sums) : Type 0 where
  pub timed : IsTimedBy p w
  pub sums : AreSumsOf w s
  pub within : SumsAreWithin links s

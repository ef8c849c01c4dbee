-- The error of what a system reads, by how long ago it received time.
use Rattle.std.specs.Prelude.{ℕ, zero, suc, ◌+◌, ◌*◌, ◌≤◌, ◌^◌, length}
use Rattle.gptp_pdelay.specs.GoodLink.{ceil_div}
use Rattle.gptp_error_laws.specs.TimeError.{Way, measured_jitter_at, rates_error_at, time_error}

-- What it follows from: the time error, in 2^-16 ns; the jitter of the last link of the way as it is measured, in ns;
-- and the error of the rate after that link, in units of 2^-41.
pub record ReadingTerms : Type 0 where
  pub error : ℕ
  pub jitter : ℕ
  pub rates_error : ℕ

-- the error so long after a receipt, in 2^-16 ns
abbrev pub error_after : ReadingTerms → ℕ → ℕ
error_after r later = r.error + ceil_div ((later + r.jitter) * r.rates_error) 33550000

-- the jitter of the last link so many links from the root, as it is measured; the root itself has none
abbrev pub jitter_after : Way → ℕ → ℕ
jitter_after w zero = 0
jitter_after w (suc i) = measured_jitter_at w i

-- the error of the rate so many links from the root; the root's own has none
abbrev pub rates_error_after : Way → ℕ → ℕ
rates_error_after w zero = 0
rates_error_after w (suc i) = rates_error_at w i

-- what it follows from at the end of a way
abbrev pub reading_terms : Way → ReadingTerms
reading_terms w = record {
  error = time_error w;
  jitter = jitter_after w (length w.links);
  rates_error = rates_error_after w (length w.links);
}

-- they are so small that 128 bits hold the error however long ago the receipt was
pub record AreTermsWithin (r : ReadingTerms) : Type 0 where
  pub error : r.error ≤ 2 ^ 100
  pub jitter : r.jitter ≤ 2 ^ 40
  pub rates_error : r.rates_error ≤ 2 ^ 60

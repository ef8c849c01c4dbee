-- What the error of a reading follows from, by the sums of a way.
use Rattle.std.proofs.Common.{◌≡◌, ℕ, zero, suc, ◌*◌, ◌+◌, pos, length, Option, Some, None, option_map, refl, sym, ap, ◌∙◌, List, arith}
use Rattle.gptp_pdelay.specs.GoodLink.{ceil_div}
use Rattle.gptp_setup.specs.declared.setup.Params.{Params}
use Rattle.gptp_graph.specs.Snapshot.{Snapshot}
use Rattle.gptp_scenario.specs.Network.{NetworkState}
use Rattle.gptp_scenario.specs.declared.change.Timed.{Timed}
use Rattle.gptp_error_laws.specs.TimeError.{WayLink, Way, reading_error, reading_error_after, time_error_at}
use Rattle.gptp_accuracy.specs.Laws.{ReadingErrorsAreOfWays}
use Rattle.gptp_accuracy.specs.Readings.{ReadingTerms, error_after, jitter_after, rates_error_after, reading_terms}
use Rattle.gptp_accuracy.specs.Sums.{AreSummed, rates_error_of, terms_of}
use Rattle.gptp_accuracy.specs.TimeErrors.{HasByWay}
use Rattle.gptp_accuracy.specs.declared.errors.SystemError.{SystemError}
use Rattle.gptp_accuracy.specs.declared.sums.Sums.{Sums}
use Rattle.gptp_accuracy.proofs.SumLemmas.{no_rates_error, rates_error_is}

-- the link that these lemmas of sums are told of changes nothing
no_link : WayLink
no_link = record { least = 0; most = 0; drift = pos 0 }

rates_are : (p : Params) (w : Way) (s : Sums) (links h : ℕ) → AreSummed links p w s → length w.links ≡ h
    → rates_error_of s ≡ rates_error_after w h
rates_are p w s links zero summed e = no_rates_error p w no_link s summed.timed summed.sums e
rates_are p w s links (suc i) summed e = rates_error_is p w no_link s summed.timed summed.sums i e

-- the sums of a way give its terms
pub terms_are : (p : Params) (w : Way) (s : Sums) (links : ℕ) → AreSummed links p w s → terms_of s ≡ reading_terms w
terms_are p w s links summed =
    let error = summed.sums.error in
    let jitter = summed.sums.jitter in
    let rates = rates_are p w s links (length w.links) summed refl in
    λ i. record { error = error i; jitter = jitter i; rates_error = rates i }

-- and these the error of a reading
after_is : (w : Way) (h later : ℕ) → length w.links ≡ h → error_after (reading_terms w) later ≡ reading_error w later
after_is w h later e =
    let terms : ℕ → ℕ = λ h. time_error_at w h
    + ceil_div ((later + jitter_after w h) * rates_error_after w h) 33550000 in
    ap terms e ∙ there h ∙ sym (ap (λ h. reading_error_after w h later) e)
  where
    there : (h : ℕ) → time_error_at w h + ceil_div ((later + jitter_after w h) * rates_error_after w h) 33550000
        ≡ reading_error_after w h later
    there zero = omega arith
    there (suc i) = refl

by_terms : (n : NetworkState) (events : List Timed) (g : Snapshot) (s : SystemError) (later : ℕ)
    (reading : Option ReadingTerms) → HasByWay n events g s reading_terms reading
    → HasByWay n events g s (λ w. reading_error w later)
    (option_map (λ (r : ReadingTerms). error_after r later) reading)
by_terms n events g s later None none = none
by_terms n events g s later (Some r) (calm, near, capable, (w, way, is)) = (
  calm,
  near,
  capable,
  (
    w,
    way,
    ap (λ (t : ReadingTerms). error_after t later) is
        ∙ after_is w (length w.links) later refl,
  ),
)

pub reading_errors_are_of_ways : ReadingErrorsAreOfWays
reading_errors_are_of_ways n events g s later exact = by_terms n events g s later s.reading exact.reading

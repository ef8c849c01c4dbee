use Rattle.std.proofs.Common.{◌≡◌, ℕ, zero, suc, ◌*◌, ◌+◌, ◌<◌, ◌≤◌, refl, rules, arith}
use Rattle.std.proofs.lemmas.Int.{ints}
use Rattle.gptp_pdelay.specs.Clock.{IsDrift}
use Rattle.gptp_pdelay.proofs.ClockLemmas.{clock_is_read}
use Rattle.gptp_pdelay.specs.Measured.{AreMeasured, IsCarried, Moments}
use Rattle.gptp_correction.specs.Carry.{hop_at, neighbour_at, BridgeFitsAt, SlaveFitsAt}
use Rattle.gptp_error_laws.specs.TimeError.{drift_at, jitter_at, link_at}
use Rattle.gptp_error_laws.specs.Examples.{two_links_way}
use Rattle.gptp_error_laws.specs.ExampleSync.{GoesOverTwoLinks, sync_came, phases, sent, two_hops}
use Rattle.gptp_error_laws.specs.WayLaws.{shown_at}

drifts : (i : ℕ) → i ≤ 2 → IsDrift (drift_at two_links_way i)
drifts zero h = record { low = omega (arith, ints); high = omega (arith, ints) }
drifts (suc zero) h = record { low = omega (arith, ints); high = omega (arith, ints) }
drifts (suc (suc zero)) h = record { low = omega (arith, ints); high = omega (arith, ints) }
drifts (suc (suc (suc i))) h = absurd (omega (arith, h))

long : (i : ℕ) → i < 2 → sent i + (link_at two_links_way i).least ≤ sync_came i
long zero h = omega arith
long (suc zero) h = omega arith
long (suc (suc i)) h = absurd (omega (arith, h))

short : (i : ℕ) → i < 2 → sync_came i ≤ sent i + (link_at two_links_way i).most
short zero h = omega arith
short (suc zero) h = omega arith
short (suc (suc i)) h = absurd (omega (arith, h))

kept_long : (i : ℕ) → suc i < 2 → sync_came i ≤ sent (suc i)
kept_long zero h = omega arith
kept_long (suc i) h = absurd (omega (arith, h))

kept_short : (i : ℕ) → suc i < 2 → sent (suc i) ≤ sync_came i + (1000 + jitter_at two_links_way i)
kept_short zero h = omega arith
kept_short (suc i) h = absurd (omega (arith, h))

ingress : (i : ℕ) → suc i < 2 → (hop_at two_hops i).ingress ≡ shown_at two_links_way phases (suc i) (sync_came i)
ingress zero h = refl
ingress (suc i) h = absurd (omega (arith, h))

egress : (i : ℕ) → suc i < 2 → (hop_at two_hops i).egress ≡ shown_at two_links_way phases (suc i) (sent (suc i))
egress zero h = refl
egress (suc i) h = absurd (omega (arith, h))

-- the two exchanges on each link
abbrev earlier : Moments
earlier = record { asked = 0; heard = 390; came = 1800 }

abbrev later : Moments
later = record { asked = 1000000000; heard = 1000000410; came = 1000001800 }

earlier_carried : IsCarried 390 410 1000 earlier
earlier_carried = record {
  there_long = omega arith;
  there_short = omega arith;
  home_long = omega arith;
  home_short = omega arith;
}

later_carried : IsCarried 390 410 1000 later
later_carried = record {
  there_long = omega arith;
  there_short = omega arith;
  home_long = omega arith;
  home_short = omega arith;
}

measured : (i : ℕ) → i < 2 → AreMeasured (link_at two_links_way i).least (link_at two_links_way i).most 1000 1000000000
    (shown_at two_links_way phases (suc i)) (shown_at two_links_way phases i) (neighbour_at two_hops i)
    (hop_at two_hops i).delay
measured zero h = record {
  earlier = earlier;
  later = later;
  earlier_carried = earlier_carried;
  later_carried = later_carried;
  apart = omega arith;
  ended = omega arith;
  rate_is = refl;
  delay_is = refl;
}
measured (suc zero) h = record {
  earlier = earlier;
  later = later;
  earlier_carried = earlier_carried;
  later_carried = later_carried;
  apart = omega arith;
  ended = omega arith;
  rate_is = refl;
  delay_is = refl;
}
measured (suc (suc i)) h = absurd (omega (arith, h))

rested : (i : ℕ) (h : i < 2) → (measured i h).earlier.came + 12 * 0 ≤ (measured i h).later.asked
unfolding measured
rested zero h = omega arith
rested (suc zero) h = omega arith
rested (suc (suc i)) h = absurd (omega (arith, h))

bridge_fits : (i : ℕ) → suc i < 2 → BridgeFitsAt two_hops i
bridge_fits zero h = search rules
bridge_fits (suc i) h = absurd (omega (arith, h))

slave_fits : (last : ℕ) → 2 ≡ suc last → SlaveFitsAt (shown_at two_links_way phases 0 (sent 0)) two_hops last
slave_fits zero h = absurd (omega (arith, h))
slave_fits (suc zero) h = search rules
slave_fits (suc (suc i)) h = absurd (omega (arith, h))

pub goes_over_two_links : GoesOverTwoLinks
goes_over_two_links =
    record {
      documented = record { little = omega arith; long = omega arith; waits = omega arith; drifts = drifts };
      read = λ i h. clock_is_read 0 0 (phases i) (drift_at two_links_way i) (omega arith);
      goes = record {
        as_long = refl;
        carried_long = long;
        carried_short = short;
        kept_long = kept_long;
        kept_short = kept_short;
        ingress = ingress;
        egress = egress;
        measured = measured;
        rested = rested;
      };
      fits = record { bridges = bridge_fits; slave = slave_fits };
      carried = refl;
      shown = refl;
      error = refl;
    }

-- What a station of a network is set up with: at what its ports announce, and how long what they receive stays.
use Rattle.std.proofs.Common.{◌≡◌, ◌<◌, ◌≤◌, ◌+◌, ◌*◌, ℕ, suc, ℤ, List, [], ◌∷◌, Some, slice_get, refl, sym, subst, inl, inr, arith, mul-le-mul}
use Rattle.std.specs.List.{AllByRecursion}
use Rattle.gptp_lists.specs.Members.{In}
use Rattle.gptp_lists.proofs.SystemSpecLemmas.{In-slice_get}
use Rattle.gptp_setup.specs.Intervals.{AreParams, IsLogUpTo, interval_of}
use Rattle.gptp_setup.specs.SettlingParams.{SettlingParams, largest_interval, span_by}
use Rattle.gptp_setup.proofs.IntervalLemmas.{interval_positive, interval_rises}
use Rattle.gptp_setup.proofs.SettlingParamsLemmas.{span_same}
use Rattle.gptp_system.specs.declared.port.Port.{Port}
use Rattle.gptp_model.specs.declared.station.Station.{Station}
use Rattle.gptp_model.specs.World.{WorldState}
use Rattle.gptp_invariants.specs.ChoiceCalm.{log_at}
use Rattle.gptp_invariants.specs.WorldKnown.{AreSet, IsLogAmong, IsSetTo}
use Rattle.gptp_invariants.specs.ChoiceView.{span_at}

-- ---- one station

-- its port at a place announces at the interval that it is set up with
pub log_there : (p : SettlingParams) (station : Station) → IsSetTo p station → (i : ℕ) (q : Port)
    → slice_get station.system.ports i ≡ Some q → log_at station.setup (suc i) ≡ q.log_interval
log_there p station set i q there = let log = set.logs i q there in rw log refl

-- which is one of its intervals
pub log_among : (p : SettlingParams) (stations : List Station) (place : ℕ) (station : Station)
    → slice_get stations place ≡ Some station → IsSetTo p station → (i : ℕ) (q : Port)
    → slice_get station.system.ports i ≡ Some q → IsLogAmong stations q.log_interval
log_among p stations place station here set i q there = record {
  place = place;
  station = station;
  here = here;
  among = In-slice_get q.log_interval station.setup.intervals.items i (set.logs i q there);
}

-- what its ports receive stays for the span of the network
pub span_is : (p : SettlingParams) (station : Station) → IsSetTo p station → (log : ℤ)
    → span_at station.system log ≡ span_by p.params.timeout p.largest log
span_is p station set log =
    let params = set.params in
    let largest = set.largest in
    rw (params, largest) refl

-- ---- all of them

of_member : (So : ℤ → Type 0) (logs : List ℤ) → AllByRecursion So logs → (log : ℤ) → In log logs → So log
of_member So [] all log among = absurd among
of_member So (first ∷ logs) all log (inl same) = subst So (sym same) all.0
of_member So (first ∷ logs) all log (inr among) = of_member So logs all.1 log among

-- the interval of a port is one of the network
pub log_within : (p : SettlingParams) (w : WorldState) → AreSet p w → (log : ℤ) → IsLogAmong w.stations log
    → IsLogUpTo p.largest log
log_within p w set log at =
    let is = set at.place at.station at.here in
    subst (λ largest. IsLogUpTo largest log) is.starts.largest
    (of_member (IsLogUpTo at.station.setup.largest) at.station.setup.intervals.items is.intervals.each log at.among)

-- and no longer than the largest
pub log_shorter : (p : SettlingParams) (w : WorldState) → AreSet p w → (log : ℤ) → IsLogAmong w.stations log
    → interval_of log ≤ largest_interval p
log_shorter p w set log at = interval_rises log p.largest (log_within p w set log at).most

-- what names it stays longer than it and as long again
pub log_outlasts : (p : SettlingParams) (w : WorldState) → AreParams p.params → AreSet p w → (log : ℤ)
    → IsLogAmong w.stations log → interval_of log + interval_of log < span_by p.params.timeout p.largest log
log_outlasts p w params set log at =
    let within = log_within p w set log at in
    let positive = interval_positive log within.within in
    let same : interval_of log ≤ interval_of log = omega arith in
    let long : 3 * interval_of log ≤ p.params.timeout * interval_of log = mul-le-mul params.timeout-least same in
    let is = span_same p.params.timeout p.largest log within in
    omega arith

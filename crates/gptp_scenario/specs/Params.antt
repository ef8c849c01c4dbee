-- The limits of what is the same for all systems of a network (profile).
use Rattle.std.specs.Prelude.{◌≡◌, ◌<◌, ◌≤◌, ℕ, ◌+◌, ◌*◌, ℤ, pos, neg_ℤ, Bool, not, ◌&&◌, nat_lt, nat_le, int_le, [], ◌∷◌, Option}
use Rattle.gptp_setup.specs.Intervals.{AreParams, interval_of, IsLog}
use Rattle.gptp_setup.specs.SettlingParams.{largest_interval, SettlingParams}
use Rattle.gptp_setup.specs.declared.setup.Params.{Params}
use Rattle.gptp_scenario.specs.Faults.{first_fault}
use Rattle.gptp_scenario.specs.declared.fault.NetworkFault.{NetworkFault}
use Rattle.gptp_scenario.specs.declared.fault.NetworkFault.TheVariants.{OutOfRange, Timing}

-- a number between two others
abbrev pub is_between : ℕ → ℕ → ℕ → Bool
is_between least greatest n = nat_le least n && nat_le n greatest

-- the logarithm to base 2 of an interval between a sixteenth of a second and sixteen seconds
abbrev pub is_log : ℤ → Bool
is_log log = int_le (neg_ℤ (pos 4)) log && int_le log (pos 4)

-- each value lies in its range
abbrev pub are_intervals_in_range : Params → Bool
are_intervals_in_range p = is_log p.announce && is_log p.sync && is_log p.pdelay

abbrev pub are_counts_in_range : Params → Bool
are_counts_in_range p = is_between 3 10 p.timeout && is_between 1 255 p.lost && nat_le p.sync_timeout 10

abbrev pub are_times_in_range : Params → Bool
are_times_in_range p =
    is_between 1 1000000000 p.threshold && is_between 1 1000000000 p.turnaround && is_between 1 1000000000 p.residence

abbrev pub are_stamps_in_range : Params → Bool
are_stamps_in_range p = is_between 0 1000 p.granularity && is_between 0 1000 p.noise && is_between 1 16 p.window

abbrev pub are_in_range : Params → Bool
are_in_range p =
    are_intervals_in_range p && are_counts_in_range p && are_times_in_range p && are_stamps_in_range p

-- A request is answered, and its answer crosses the link, before the next request; requests are no rarer than
-- announcements; a bridge sends time on before it gets the next.
abbrev pub is_timed : Params → Bool
is_timed p =
    nat_lt (2 * p.threshold + p.turnaround) (interval_of p.pdelay)
    && nat_le (interval_of p.pdelay) (interval_of p.announce)
    && nat_lt p.residence (interval_of p.sync)

-- the first test that such values fail
abbrev pub params_fault : Params → Option NetworkFault
params_fault p = first_fault ((not (are_in_range p), OutOfRange) ∷ (not (is_timed p), Timing) ∷ [])

-- the parameters are in range, as facts: what `are_in_range` tests; `KeepParams` is that with what `is_timed` tests
pub record AreInRange (p : Params) : Type 0 where
  pub params : AreParams p
  pub timeout : 3 ≤ p.timeout
  pub lost-least : 1 ≤ p.lost
  pub threshold-least : 1 ≤ p.threshold
  pub threshold : p.threshold ≤ 1000000000

pub record KeepParams (p : Params) : Type 0 where
  pub ranges : AreInRange p
  pub answered : 2 * p.threshold + p.turnaround < interval_of p.pdelay
  pub requests : interval_of p.pdelay ≤ interval_of p.announce
  pub relayed : p.residence < interval_of p.sync

-- the parameters keep their limits, and the largest announce interval of a network is in its range, with requests no
-- rarer than announcements at it
pub record KeepPace (p : SettlingParams) : Type 0 where
  pub params : KeepParams p.params
  pub largest : IsLog p.largest
  pub requests : interval_of p.params.pdelay ≤ largest_interval p

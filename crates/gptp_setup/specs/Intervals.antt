-- Intervals of messages (IEEE 802.1AS-2020, 10.7.2 and 11.5.2).
use Rattle.std.specs.Prelude.{◌≡◌, ◌≤◌, ℕ, ◌+◌, ◌*◌, ◌/◌, ◌^◌, ℤ, pos, negsuc, neg_ℤ, ◌≤ℤ◌, length}
use Rattle.std.specs.List.{AllByRecursion}
use Rattle.gptp_setup.specs.declared.limits.TheConstants.{LAST_MOMENT}
use Rattle.gptp_setup.specs.declared.setup.Params.{Params}
use Rattle.gptp_setup.specs.declared.setup.Setup.{Setup}

-- the interval whose logarithm to base 2 is this, in ns
abbrev pub interval_of : ℤ → ℕ
interval_of (pos n) = 1000000000 * 2 ^ n
interval_of (negsuc n) = 1000000000 / 2 ^ (n + 1)

-- an interval is between a sixteenth of a second and sixteen seconds
pub record IsLog (log : ℤ) : Type 0 where
  pub low : neg_ℤ (pos 4) ≤ℤ log
  pub high : log ≤ℤ pos 4

-- an interval that a port announces at: within these limits, and not above the largest of its network
pub record IsLogUpTo (largest log : ℤ) : Type 0 where
  pub within : IsLog log
  pub most : log ≤ℤ largest

-- what a system is set up to announce at: each of its ports at an interval of its own, none of them above the largest
pub record AreIntervals (setup : Setup) : Type 0 where
  pub many : length setup.intervals.items ≡ setup.ports
  pub each : AllByRecursion (IsLogUpTo setup.largest) setup.intervals.items
  pub largest : IsLog setup.largest

-- the range of each parameter of a network (profile)
pub record AreParams (p : Params) : Type 0 where
  pub announce : IsLog p.announce
  pub sync : IsLog p.sync
  pub pdelay : IsLog p.pdelay
  pub timeout-least : 3 ≤ p.timeout
  pub timeout : p.timeout ≤ 10
  pub lost-least : 1 ≤ p.lost
  pub lost : p.lost ≤ 255
  pub threshold-least : 1 ≤ p.threshold
  pub threshold : p.threshold ≤ 1000000000
  pub turnaround-least : 1 ≤ p.turnaround
  pub turnaround : p.turnaround ≤ 1000000000
  pub residence-least : 1 ≤ p.residence
  pub residence : p.residence ≤ 1000000000
  pub sync-timeout : p.sync_timeout ≤ 10
  pub granularity : p.granularity ≤ 1000
  pub noise : p.noise ≤ 1000
  pub window-least : 1 ≤ p.window
  pub window : p.window ≤ 16

-- the times of a simulation, in ns
abbrev pub IsMoment : ℕ → Type 0
IsMoment t = t ≤ LAST_MOMENT

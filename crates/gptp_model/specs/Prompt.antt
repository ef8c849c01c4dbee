-- Acts of a world after which every frame still arrives within each announce interval.
use Rattle.std.specs.Prelude.{◌≡◌, ◌≤◌, ℕ, ℤ, List, Some, slice_get}
use Rattle.gptp_lists.specs.Members.{In}
use Rattle.gptp_setup.specs.Intervals.{interval_of}
use Rattle.gptp_setup.specs.SettlingParams.{SettlingParams}
use Rattle.gptp_scenario.specs.declared.change.Act.{Act}
use Rattle.gptp_scenario.specs.Prompt.{DelayFitsInterval}
use Rattle.gptp_scenario.specs.declared.change.Timed.{Timed}
use Rattle.gptp_model.specs.declared.station.Station.{Station}
use Rattle.gptp_model.specs.World.{WorldState}

-- a link is set to no delay above the announce interval of any port of any system
abbrev pub DelaysFitIntervals : WorldState → Act → Type 0
DelaysFitIntervals w act = (place : ℕ) (station : Station) (log : ℤ) → slice_get w.stations place ≡ Some station
    → In log station.setup.intervals.items → DelayFitsInterval (interval_of log) act

-- no act of a list sets a link to a delay above the announce interval of any port of any system
abbrev pub AllDelaysFitIntervals : WorldState → List Timed → Type 0
AllDelaysFitIntervals w acts = (place : ℕ) (timed : Timed) → slice_get acts place ≡ Some timed
    → DelaysFitIntervals w timed.act

-- a system starts with these parameters, and with this largest interval
pub record HasPace (p : SettlingParams) (station : Station) : Type 0 where
  pub params : station.setup.params ≡ p.params
  pub largest : station.setup.largest ≡ p.largest

-- all systems start with these parameters, and with this largest interval
abbrev pub HavePace : SettlingParams → WorldState → Type 0
HavePace p w = (place : ℕ) (station : Station) → slice_get w.stations place ≡ Some station → HasPace p station

-- no port of any system announces at an interval below this, in ns
abbrev pub NoneFaster : ℕ → WorldState → Type 0
NoneFaster least w = (place : ℕ) (station : Station) (log : ℤ) → slice_get w.stations place ≡ Some station
    → In log station.setup.intervals.items → least ≤ interval_of log

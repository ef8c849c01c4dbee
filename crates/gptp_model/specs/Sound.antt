-- What is true of every world, and kept by every act.
use Rattle.std.specs.Prelude.{◌≡◌, ◌≤◌, ◌^◌, ℕ, true, false, [], length, Some, slice_get}
use Rattle.gptp_links.specs.declared.link.Direction.{Direction}
use Rattle.gptp_links.specs.Queue.{AreDueInOrder}
use Rattle.gptp_pdelay.specs.Clock.{IsDrift}
use Rattle.gptp_roles.specs.Selection.{clock_of}
use Rattle.gptp_setup.specs.declared.limits.TheConstants.{MOST_PORTS}
use Rattle.gptp_setup.specs.Intervals.{AreIntervals}
use Rattle.gptp_system.specs.Facts.{MeasuresOver}
use Rattle.gptp_system.specs.State.{clock}
use Rattle.gptp_system.specs.Steps.{HasPortNumber, IsUp}
use Rattle.gptp_model.specs.declared.station.Station.{Station}
use Rattle.gptp_model.specs.Agrees.{Agrees}
use Rattle.gptp_model.specs.Ahead.{IsWorldOnTime}
use Rattle.gptp_model.specs.World.{Channel, WorldState, sender, world_queue}

-- what a system starts with keeps the limits, and is its own
pub record IsItsSetup (station : Station) : Type 0 where
  pub ports : length station.system.ports ≡ station.setup.ports
  pub few : station.setup.ports ≤ MOST_PORTS
  pub phase : station.setup.phase ≤ 10 ^ 18
  pub drift : IsDrift station.setup.drift
  pub intervals : AreIntervals station.setup
  pub named : clock_of station.setup.identity ≡ clock station.system
  pub windows : MeasuresOver station.setup.params.window station.system.ports

abbrev pub HaveTheirSetups : WorldState → Type 0
HaveTheirSetups w = (place : ℕ) (station : Station) → slice_get w.stations place ≡ Some station → IsItsSetup station

-- no two systems have the same clock
abbrev pub HaveOwnClocks : WorldState → Type 0
HaveOwnClocks w = (place other : ℕ) (station at : Station) → slice_get w.stations place ≡ Some station
    → slice_get w.stations other ≡ Some at → clock station.system ≡ clock at.system → place ≡ other

-- a link joins ports that systems have
abbrev pub JoinPorts : WorldState → Type 0
JoinPorts w = (link place : ℕ) (direction : Direction) (channel : Channel) (station : Station)
    → slice_get w.net.channels link ≡ Some channel → slice_get w.stations place ≡ Some station
    → clock station.system ≡ (sender direction channel).clock
    → HasPortNumber station.system (sender direction channel).port

-- at a port there is at most one link
abbrev pub AreApart : WorldState → Type 0
AreApart w = (link other : ℕ) (direction way : Direction) (channel at : Channel)
    → slice_get w.net.channels link ≡ Some channel → slice_get w.net.channels other ≡ Some at
    → sender direction channel ≡ sender way at → link ≡ other

-- frames arrive in the order in which they were sent, and nothing is in flight on a link that is down
pub record Flows (direction : Direction) (channel : Channel) : Type 0 where
  pub order : AreDueInOrder (world_queue direction channel)
  pub still : channel.up ≡ false → world_queue direction channel ≡ []

abbrev pub AllFlow : WorldState → Type 0
AllFlow w = (link : ℕ) (direction : Direction) (channel : Channel) → slice_get w.net.channels link ≡ Some channel
    → Flows direction channel

-- each port of a live system at a link that is up measures that link: its Pdelay timer runs
abbrev pub AreLinked : WorldState → Type 0
AreLinked w = (link place : ℕ) (direction : Direction) (channel : Channel) (station : Station)
    → slice_get w.net.channels link ≡ Some channel → channel.up ≡ true
    → slice_get w.stations place ≡ Some station → station.live ≡ true
    → clock station.system ≡ (sender direction channel).clock → IsUp station.system (sender direction channel).port

-- the systems are their own, and the links join them
pub record IsWired (w : WorldState) : Type 0 where
  pub setups : HaveTheirSetups w
  pub clocks : HaveOwnClocks w
  pub ports : JoinPorts w
  pub apart : AreApart w
  pub flow : AllFlow w
  pub linked : AreLinked w

pub record IsSound (w : WorldState) : Type 0 where
  pub wired : IsWired w
  pub on_time : IsWorldOnTime w
  pub agrees : Agrees w

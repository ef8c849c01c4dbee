-- Laws: the acts of a world are steps of the machine of gptp_bmca_machine.
use Rattle.std.specs.Prelude.{◌≡◌, ◌⊎◌, ◌≤◌, ℕ, ⊤, List, Option, Some, slice_get}
use Rattle.gptp_links.specs.declared.link.Direction.{Direction}
use Rattle.gptp_links.specs.Fate.{Draw}
use Rattle.gptp_system.specs.declared.answer.Answer.{Answer}
use Rattle.gptp_setup.specs.declared.timer.Timer.{Timer}
use Rattle.gptp_scenario.specs.declared.change.Act.{Act}
use Rattle.gptp_scenario.specs.declared.change.Act.TheVariants.{Change as Changing}
use Rattle.gptp_model.specs.declared.done.Done.{Done}
use Rattle.gptp_model.specs.declared.station.Station.{Station}
use Rattle.gptp_model.specs.Act.{Delivers, TimerRunsOut}
use Rattle.gptp_model.specs.Acts.{Acts, at}
use Rattle.gptp_model.specs.Sound.{IsSound}
use Rattle.gptp_model.specs.World.{Channel, WorldState}
use Rattle.gptp_bmca_machine.specs.Acts.{StationActs as SeenActs, Arrives, Drops, Runs, MomentComes}
use Rattle.gptp_invariants.specs.WorldEncodable.{IsEncodable}
use Rattle.gptp_invariants.specs.ChoiceView.{lane_place, lane_view, says_announce, station_view, view}

-- where a system stands in the world, it stands in its view
abbrev pub StationsAreSeen : Type 0
StationsAreSeen = (w : WorldState) (place : ℕ) (station : Station) → slice_get w.stations place ≡ Some station
    → slice_get (view w).stations place ≡ Some (station_view station)

-- the lanes of a link stand at twice its place, and one after
abbrev pub LanesAreSeen : Type 0
LanesAreSeen = (w : WorldState) (link : ℕ) (direction : Direction) (channel : Channel)
    → slice_get w.net.channels link ≡ Some channel
    → slice_get (view w).lanes (lane_place link direction) ≡ Some (lane_view direction channel)

-- time that passes is a moment that comes
abbrev pub TimeIsSeen : Type 0
TimeIsSeen = (w : WorldState) (time : ℕ) → w.time ≤ time → MomentComes (view w) (view (at time w))

-- a timer that runs out is something that happens at a live system
abbrev pub ExpiriesAreSeen : Type 0
ExpiriesAreSeen = (place : ℕ) (timer : Timer) (w : WorldState) (draws : List Draw) (w' : WorldState)
    → IsSound w → IsEncodable w → TimerRunsOut place timer w draws w'
    → Runs says_announce (view w) (view w')

-- a frame that is delivered arrives at a live system, or does nothing
abbrev pub DeliveriesAreSeen : Type 0
DeliveriesAreSeen = (link : ℕ) (direction : Direction) (octets : List ℕ) (w : WorldState) (draws : List Draw)
    (answer : Option Answer) (w' : WorldState)
    → IsSound w → IsEncodable w → Delivers link direction octets w draws answer w'
    → Arrives says_announce (view w) (view w') ⊎ Drops says_announce (view w) (view w')

-- the act changes nothing of the network
abbrev pub IsNoChange : Act → Type 0
IsNoChange (Changing change) = ⊥
IsNoChange act = ⊤

-- every act that changes nothing of the network is a step of the machine
abbrev pub ActsAreSeen : Type 0
ActsAreSeen = (act : Act) (w : WorldState) (draws : List Draw) (done : Done) (w' : WorldState)
    → IsNoChange act → IsSound w → IsEncodable w → Acts act w draws done w'
    → SeenActs says_announce (view w) (view w')

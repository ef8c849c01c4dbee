-- What is true of the measuring in every world: each port is itself, its timers are in time, and what is in flight
-- fits.
use Rattle.std.specs.Prelude.{◌≡◌, ◌≢◌, ℕ, true, List, Some, slice_get}
use Rattle.gptp_lists.specs.Members.{In}
use Rattle.gptp_links.specs.declared.link.Direction.{Direction}
use Rattle.gptp_links.specs.Queue.{Frame}
use Rattle.gptp_system.specs.declared.port.Port.{Port}
use Rattle.gptp_system.specs.Measures.{measure_at}
use Rattle.gptp_system.specs.State.{clock, number, own}
use Rattle.gptp_system.specs.Times.{IsInTime}
use Rattle.gptp_model.specs.declared.station.Station.{Station}
use Rattle.gptp_model.specs.World.{Channel, WorldState, world_queue, receiver, sender}
use Rattle.gptp_invariants.specs.DelayLinkView.{IsAsSetUp, IsGoodBetween, IsMeasuring, LinkPlace, RequestSaysWhatFits}

-- a station is as it was set up, its timers are in time, and each of its ports measures
pub record IsStationMeasured (time : ℕ) (station : Station) : Type 0 where
  pub set_up : IsAsSetUp station
  pub in_time : IsInTime station.system time
  pub ports : (n : ℕ) (q : Port) → number station.system.ports n ≡ Some q
      → IsMeasuring station.setup.params (own station.system n) (measure_at q)

-- what is in flight on each link fits
abbrev pub AllFit : List Channel → Type 0
AllFit channels = (link : ℕ) (channel : Channel) → slice_get channels link ≡ Some channel
    → (direction : Direction) (f : Frame) → In f (world_queue direction channel) → RequestSaysWhatFits f.octets

pub record LinkIsMeasured (w : WorldState) : Type 0 where
  pub stations : (place : ℕ) (station : Station) → slice_get w.stations place ≡ Some station
      → IsStationMeasured w.time station
  pub frames : AllFit w.net.channels

-- the station at a place is live and has this clock
pub record StationIsLiveAt (place number : ℕ) (w : WorldState) : Type 0 where
  pub station : Station
  pub here : slice_get w.stations place ≡ Some station
  pub live : station.live ≡ true
  pub named : clock station.system ≡ number

-- Where all stands: a link that is up, loses nothing and is good, and at its ends two live stations.
pub record LinkStandsAt (at : LinkPlace) (w : WorldState) : Type 0 where
  pub channel : Channel
  pub here : slice_get w.net.channels at.link ≡ Some channel
  pub up : channel.up ≡ true
  pub lossless : channel.bounds.loss ≡ 0
  pub asking : StationIsLiveAt at.asking (sender at.direction channel).clock w
  pub answering : StationIsLiveAt at.answering (receiver at.direction channel).clock w
  pub apart : at.asking ≢ at.answering
  pub good : IsGoodBetween channel.bounds.max asking.station.setup.params answering.station.setup.params

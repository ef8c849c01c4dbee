-- Worlds of which the same is true but for the time that systems read and tell, as of two that differ in whether
-- systems go on with it.
use Rattle.std.specs.Prelude.{◌≡◌, ℕ, ⊤, false, List, ◌∷◌, map, Some, FitsSigned, slice_get}
use Rattle.std.specs.Int.{w8}
use Rattle.std.specs.List.{AllZip}
use Rattle.gptp_links.specs.Queue.{Frame}
use Rattle.gptp_scenario.specs.Network.{NetworkState}
use Rattle.gptp_scenario.specs.declared.network.SystemSpec.{SystemSpec}
use Rattle.gptp_scenario.specs.declared.change.Act.{Act}
use Rattle.gptp_scenario.specs.declared.change.Act.TheVariants.{Deliver, Expire}
use Rattle.gptp_setup.specs.declared.setup.Setup.{Setup}
use Rattle.gptp_setup.specs.declared.timer.Timer.{Timer}
use Rattle.gptp_setup.specs.declared.timer.Timer.TheVariants as timers
use Rattle.gptp_system.specs.State.{SystemState}
use Rattle.gptp_model.specs.declared.done.Done.{Done}
use Rattle.gptp_model.specs.declared.done.Done.TheVariants.{Quiet, Heard}
use Rattle.gptp_model.specs.declared.station.Station.{Station}
use Rattle.gptp_model.specs.World.{Channel, Net, WorldState, world_queue, receiver}
use Rattle.gptp_determinism.specs.BesideTime.{KnowsStamp, SaySame, beside_time}
use Rattle.gptp_determinism.specs.ContinuesLaws.{ReceiptsFitAlike, RelaysFitAlike}

-- frames in flight
pub record FramesBeside (f g : Frame) : Type 0 where
  pub due : f.due ≡ g.due
  pub say : SaySame f.octets g.octets

pub record LinksBeside (c d : Channel) : Type 0 where
  pub a : c.a ≡ d.a
  pub b : c.b ≡ d.b
  pub bounds : c.bounds ≡ d.bounds
  pub up : c.up ≡ d.up
  pub from_a : AllZip FramesBeside c.from_a d.from_a
  pub from_b : AllZip FramesBeside c.from_b d.from_b

-- what is between the systems
pub record NetsBeside (n m : Net) : Type 0 where
  pub links : AllZip LinksBeside n.channels m.channels
  pub pending : n.pending ≡ m.pending

-- Systems. What they know of a time is a timestamp, and their sync interval fits its octet: so what they tell is read.
pub record SystemsBeside (s t : SystemState) : Type 0 where
  pub same : beside_time s ≡ beside_time t
  pub one : KnowsStamp s
  pub other : KnowsStamp t
  pub log : FitsSigned w8 s.params.sync

-- what a system starts with, but for `continues`
abbrev pub setup_beside : Setup → Setup
setup_beside setup = record setup { continues = false }

pub record StationsBeside (x y : Station) : Type 0 where
  pub setup : setup_beside x.setup ≡ setup_beside y.setup
  pub log : FitsSigned w8 x.setup.params.sync
  pub system : SystemsBeside x.system y.system
  pub live : x.live ≡ y.live

-- a network, but for that of its systems
abbrev pub member_beside : SystemSpec → SystemSpec
member_beside member = record member { continues = false }

abbrev pub network_beside : NetworkState → NetworkState
network_beside n = record n { systems = map member_beside n.systems }

pub record WorldsBeside (w v : WorldState) : Type 0 where
  pub time : w.time ≡ v.time
  pub last_change : w.last_change ≡ v.last_change
  pub stations : AllZip StationsBeside w.stations v.stations
  pub net : NetsBeside w.net v.net

-- what is told of two acts is the same, but for the time that a Follow_Up says
abbrev pub DoneBeside : Done → Done → Type 0
DoneBeside Quiet Quiet = ⊤
DoneBeside Quiet (Heard clock port answer frame) = ⊥
DoneBeside (Heard clock port answer frame) Quiet = ⊥
DoneBeside (Heard clock port answer frame) (Heard number reached said octets) =
    (clock ≡ number) × (port ≡ reached) × (answer ≡ said) × SaySame frame.items octets.items

-- The numbers on the way of time fit in both worlds or in neither, where the timer of a system expires.
abbrev pub TimersFitAlike : Timer → WorldState → WorldState → Type 0
TimersFitAlike timers.Relay w v = (place : ℕ) (x y : Station)
    → slice_get w.stations place ≡ Some x → slice_get v.stations place ≡ Some y
    → RelaysFitAlike w.time x.system y.system
TimersFitAlike timer w v = ⊤

-- So they do where an act is done: those of the frame that is delivered, or of the timer.
abbrev pub ActsFitAlike : Act → WorldState → WorldState → Type 0
ActsFitAlike (Deliver link direction) w v = (place : ℕ) (x y : Station) (c d : Channel) (f g : Frame)
    (fs gs : List Frame) → slice_get w.stations place ≡ Some x → slice_get v.stations place ≡ Some y
    → slice_get w.net.channels link ≡ Some c → slice_get v.net.channels link ≡ Some d
    → world_queue direction c ≡ f ∷ fs → world_queue direction d ≡ g ∷ gs
    → ReceiptsFitAlike (receiver direction c).port f.octets (receiver direction d).port g.octets x.system y.system
ActsFitAlike (Expire number timer) w v = TimersFitAlike timer w v
ActsFitAlike act w v = ⊤

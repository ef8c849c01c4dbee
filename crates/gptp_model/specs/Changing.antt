-- What a change of the network makes of the world (profile).
use Rattle.std.specs.Prelude.{◌≡◌, ◌⊎◌, ℕ, ◌+◌, ◌*◌, ◌^◌, ◌%◌, ◌==◌, ◌&&◌, ◌||◌, Bool, true, false, List, [], ◌∷◌, ◌++◌, map, length, Some, slice_get, slice_set}
use Rattle.std.specs.List.{range_with_len, filter}
use Rattle.gptp_vector.specs.declared.port.PortId.{PortId}
use Rattle.gptp_links.specs.declared.bounds.Bounds.{Bounds}
use Rattle.gptp_links.specs.declared.link.Direction.TheVariants.{FromA, FromB}
use Rattle.gptp_links.specs.Fate.{Draw}
use Rattle.gptp_system.specs.declared.answer.Answer.{Answer}
use Rattle.gptp_system.specs.Input.{Input, PortUp, PortDown}
use Rattle.gptp_system.specs.Start.{started}
use Rattle.gptp_system.specs.State.{clock}
use Rattle.gptp_model.specs.declared.item.Item.TheVariants.{Arrival}
use Rattle.gptp_model.specs.declared.station.Station.{Station}
use Rattle.gptp_model.specs.Pending.{without}
use Rattle.gptp_model.specs.Sends.{SendsOne}
use Rattle.gptp_model.specs.World.{Channel, Net, WorldState}
use Rattle.gptp_model.specs.Act.{all_timers, Calls, HasFailed}

-- ---- who is concerned

-- the system of a clock stands at this place
pub record IsStation (number place : ℕ) (w : WorldState) (station : Station) : Type 0 where
  pub here : slice_get w.stations place ≡ Some station
  pub named : clock station.system ≡ number

-- the link at a port stands at this place
pub record IsChannel (port : PortId) (place : ℕ) (net : Net) (channel : Channel) : Type 0 where
  pub here : slice_get net.channels place ≡ Some channel
  pub joined : (channel.a ≡ port) ⊎ (channel.b ≡ port)

-- the world in which this stands at a place
abbrev pub with_station : ℕ → Station → WorldState → WorldState
with_station place station w = record w { stations = slice_set w.stations place station }

-- ---- calls one after another

-- a live system is given an input; one that has failed isn't
abbrev pub CallsIfLive : ℕ → Input → WorldState → List Draw → WorldState → Type 0
CallsIfLive place input w draws w' =
    ((answer : Answer) × Calls place input w draws answer w') ⊎ (HasFailed place w × (draws ≡ []) × (w' ≡ w))

-- both ends of a link are told, its end a first
pub record TellsEnds (input : ℕ → Input) (channel : Channel) (w : WorldState) (draws : List Draw) (w' : WorldState) :
    Type 0 where
  pub place_a : ℕ
  pub place_b : ℕ
  pub station_a : Station
  pub station_b : Station
  pub first : List Draw
  pub second : List Draw
  pub between : WorldState
  pub is_a : IsStation channel.a.clock place_a w station_a
  pub is_b : IsStation channel.b.clock place_b w station_b
  pub draws_are : draws ≡ first ++ second
  pub at_a : CallsIfLive place_a (input channel.a.port) w first between
  pub at_b : CallsIfLive place_b (input channel.b.port) between second w'

-- a live system is given inputs, one after another
abbrev pub CallsAll : ℕ → List Input → WorldState → List Draw → WorldState → Type 0
CallsAll place [] w draws w' = (draws ≡ []) × (w' ≡ w)
CallsAll place (input ∷ inputs) w draws w' =
    (first : List Draw) × (rest : List Draw) × (between : WorldState) × (answer : Answer) × (draws ≡ first ++ rest)
    × Calls place input w first answer between × CallsAll place inputs between rest w'

-- ---- a start

-- whether a link that is up is at this port
abbrev pub is_link_end : ℕ → ℕ → PortId → Bool
is_link_end number port end = end.clock == number && end.port == port

abbrev pub is_up_at : List Channel → ℕ → ℕ → Bool
is_up_at [] number port = false
is_up_at (channel ∷ channels) number port =
    (channel.up && (is_link_end number port channel.a || is_link_end number port channel.b)) || is_up_at channels
    number port

-- the numbers of a system's ports whose links are up, rising
abbrev pub up_ports : Station → Net → List ℕ
up_ports station net =
    filter (λ p. is_up_at net.channels (clock station.system) p) (range_with_len 1 (length station.system.ports))

-- a system as it starts
abbrev pub fresh : ℕ → Station → Station
fresh now station = record { setup = station.setup; system = started station.setup now; live = true }

-- It starts: its Sync timer runs, and then its ports come up, each whose link is up.
pub record Starts (place : ℕ) (w : WorldState) (draws : List Draw) (w' : WorldState) : Type 0 where
  pub station : Station
  pub here : slice_get w.stations place ≡ Some station
  pub calls : CallsAll place (map PortUp (up_ports (fresh w.time station) w.net))
      (record (with_station place (fresh w.time station) w) { net = all_timers place (fresh w.time station) w.net })
      draws w'

-- all systems at these places start, one after another
abbrev pub StartsAll : List ℕ → WorldState → List Draw → WorldState → Type 0
StartsAll [] w draws w' = (draws ≡ []) × (w' ≡ w)
StartsAll (place ∷ places) w draws w' =
    (first : List Draw) × (rest : List Draw) × (between : WorldState) × (draws ≡ first ++ rest)
    × Starts place w first between × StartsAll places between rest w'

-- ---- the changes, where they change something

-- all that was in flight is lost
abbrev pub lost : Channel → Channel
lost channel = record channel { up = false; from_a = []; from_b = [] }

-- what is between the systems once this stands for the link at a place
abbrev pub with_channel : ℕ → Channel → Net → Net
with_channel place channel net = record net { channels = slice_set net.channels place channel }

-- a link goes down, and nothing on it is pending any more
abbrev pub taken_down : ℕ → Channel → Net → Net
taken_down place channel net = record {
  channels = slice_set net.channels place (lost channel);
  pending = without (Arrival place FromB) (without (Arrival place FromA) net.pending);
}

-- a link comes up
abbrev pub brought_up : ℕ → Channel → Net → Net
brought_up place channel net = with_channel place (record channel { up = true }) net

-- frames that are sent from now on have these bounds
abbrev pub with_bounds : Bounds → ℕ → Channel → Net → Net
with_bounds bounds place channel net = with_channel place (record channel { bounds = bounds }) net

-- nothing but the time of the last change changes where the link, or the system, is as it should become already
abbrev pub Nothing : WorldState → List Draw → WorldState → Type 0
Nothing w draws w' = (draws ≡ []) × (w' ≡ w)

abbrev pub GoesDownIf : Bool → ℕ → Channel → WorldState → List Draw → WorldState → Type 0
GoesDownIf false place channel w draws w' = Nothing w draws w'
GoesDownIf true place channel w draws w' =
    TellsEnds PortDown channel (record w { net = taken_down place channel w.net }) draws w'

abbrev pub ComesUpIf : Bool → ℕ → Channel → WorldState → List Draw → WorldState → Type 0
ComesUpIf true place channel w draws w' = Nothing w draws w'
ComesUpIf false place channel w draws w' =
    TellsEnds PortUp channel (record w { net = brought_up place channel w.net }) draws w'

-- a system that has failed: all its timers stop
abbrev pub failed : ℕ → Station → WorldState → WorldState
failed place station w =
    record (with_station place (record station { live = false }) w) {
      net = all_timers place
          (record station { live = false }) w.net;
    }

abbrev pub FailsIf : Bool → ℕ → Station → WorldState → List Draw → WorldState → Type 0
FailsIf true place station w draws w' = (draws ≡ []) × (w' ≡ failed place station w)
FailsIf false place station w draws w' = Nothing w draws w'

abbrev pub RecoversIf : Bool → ℕ → WorldState → List Draw → WorldState → Type 0
RecoversIf true place w draws w' = Nothing w draws w'
RecoversIf false place w draws w' = Starts place w draws w'

-- A system has another priority1: a live one selects, and one that has failed starts so.
abbrev pub with_setup : ℕ → Station → Station
with_setup value station =
    record station { setup = record station.setup { identity = value * 2 ^ 104 + station.setup.identity % 2 ^ 104 } }

-- Octets enter the link at a port, which is up, as if the system of the port had sent them: with one draw of the fate.
-- Whether that system lives isn't asked.
pub record Injects (from : PortId) (octets : List ℕ) (w : WorldState) (draws : List Draw) (w' : WorldState) :
    Type 0 where
  pub draw : Draw
  pub net : Net
  pub drawn_once : draws ≡ draw ∷ []
  pub sent : SendsOne w.time from octets draw w.net net
  pub is : w' ≡ record w { net = net }

abbrev pub InjectsIf : Bool → PortId → List ℕ → WorldState → List Draw → WorldState → Type 0
InjectsIf true from octets w draws w' = Injects from octets w draws w'
InjectsIf false from octets w draws w' = Nothing w draws w'

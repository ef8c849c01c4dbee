-- Where ports measure: only at links that are up.
use Rattle.std.specs.Prelude.{◌≡◌, ℕ, true, List, Some, slice_get}
use Rattle.gptp_vector.specs.declared.port.PortId.{PortId}
use Rattle.gptp_links.specs.declared.link.Direction.{Direction}
use Rattle.gptp_system.specs.State.{own}
use Rattle.gptp_system.specs.Steps.{IsUp}
use Rattle.gptp_model.specs.declared.station.Station.{Station}
use Rattle.gptp_model.specs.World.{Channel, WorldState, sender}

-- a link that is up begins at this port
pub record BeginsLink (channels : List Channel) (from : PortId) : Type 0 where
  pub link : ℕ
  pub direction : Direction
  pub channel : Channel
  pub here : slice_get channels link ≡ Some channel
  pub begins : sender direction channel ≡ from
  pub up : channel.up ≡ true

-- the Pdelay timer of a port of a live system runs only there
abbrev pub MeasureLinks : WorldState → Type 0
MeasureLinks w = (place : ℕ) (station : Station) → slice_get w.stations place ≡ Some station → station.live ≡ true
    → (n : ℕ) → IsUp station.system n → BeginsLink w.net.channels (own station.system n)

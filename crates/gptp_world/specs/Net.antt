-- What the code keeps between the systems of a world.
use Rattle.std.specs.Prelude.{◌≡◌, ◌⊎◌, ◌+◌, ◌≤◌, ℕ, Bool, true, List, Option, Some, map, slice_get}
use Rattle.gptp_links.specs.declared.bounds.Bounds.{Bounds}
use Rattle.gptp_links.specs.Fate.{Draw, Draws}
use Rattle.gptp_system.specs.declared.sending.Sending.{Sending}
use Rattle.gptp_system.specs.State.{SystemState}
use Rattle.gptp_vector.specs.declared.port.PortId.{PortId}
use Rattle.gptp_traffic.specs.declared.joined_link.Lane.{Lane}
use Rattle.gptp_traffic.specs.Traffic.{join_of, SentOne}
use Rattle.gptp_world.specs.declared.net.Net.{Net as Between}
use Rattle.gptp_world.specs.Directory.{BeginsAt}
use Rattle.gptp_model.specs.Sends.{IsUnlinkedPort, SendsAll}
use Rattle.gptp_model.specs.World.{Channel, Net}

-- the links and what is pending
abbrev pub between : Between → Net
between net = net.traffic.net

-- the directory knows the links
pub record IsNet (net : Between) : Type 0 where
  pub joins : map join_of net.traffic.net.channels ≡ net.directory.joins

-- nothing changes but what is pending of timers, and room for so many entries
pub record OnlyEntries (used : ℕ) (net net' : Between) : Type 0 where
  pub directory : net'.directory ≡ net.directory
  pub channels : net'.traffic.net.channels ≡ net.traffic.net.channels
  pub buffers : net'.buffers ≡ net.buffers
  pub systems : net'.traffic.systems ≡ net.traffic.systems
  pub room : net.traffic.room ≤ net'.traffic.room + used

-- the link at a place is up, or down
abbrev pub LinkIs : Bool → ℕ → Between → Type 0
LinkIs up link net = (channel : Channel) → slice_get net.traffic.net.channels link ≡ Some channel → channel.up ≡ up

-- a lane of a link that is up begins at this port
pub record IsUpLane (net : Between) (port : PortId) (lane : Lane) : Type 0 where
  pub begins : BeginsAt net.directory.joins port lane
  pub channel : Channel
  pub here : slice_get net.traffic.net.channels lane.link ≡ Some channel
  pub up : channel.up ≡ true

-- One send: it went onto a link that is up, or there is none.
pub record Unlinked {F : Type 0} (from : PortId) (fate fate_after : F) (net net_after : Net) : Type 0 where
  pub unlinked : IsUnlinkedPort net from
  pub fate_is : fate_after ≡ fate
  pub net_is : net_after ≡ net

abbrev pub SentNext : {F : Type 0} → (Bounds → ℕ → F → Option ℕ → F → Type 0) → ℕ → PortId → List ℕ → F → F → Net → Net
    → Type 0
SentNext answers now from octets fate fate_after net net_after =
    SentOne answers now from octets fate fate_after net net_after ⊎ Unlinked from fate fate_after net net_after

-- All were sent: the fate drew once for each that a link carries.
pub record SentAll {F : Type 0} (answers : Bounds → ℕ → F → Option ℕ → F → Type 0) (now : ℕ) (s : SystemState)
    (sends : List Sending) (fate fate_after : F) (net net_after : Net) : Type 0 where
  pub draws : List Draw
  pub drawn : Draws answers fate draws fate_after
  pub sends_all : SendsAll now s sends draws net net_after

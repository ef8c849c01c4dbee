-- What is between the systems of a world, and what a frame that is sent makes of it.
use Rattle.std.specs.Prelude.{◌≡◌, ℕ, ◌+◌, List, [], ◌∷◌, length, Option, Some, slice_get}
use Rattle.gptp_links.specs.declared.bounds.Bounds.{Bounds}
use Rattle.gptp_links.specs.declared.link.Direction.TheVariants.{FromA, FromB}
use Rattle.gptp_links.specs.Bounds.{Fit}
use Rattle.gptp_links.specs.Fate.{Draw}
use Rattle.gptp_links.specs.Queue.{Frame}
use Rattle.gptp_model.specs.Sends.{SendsOne}
use Rattle.gptp_model.specs.World.{Channel, Net}
use Rattle.gptp_vector.specs.declared.port.PortId.{PortId}
use Rattle.gptp_traffic.specs.declared.joined_link.Join.{Join}
use Rattle.gptp_traffic.specs.declared.joined_link.JoinedLink.{JoinedLink}
use Rattle.gptp_traffic.specs.Pending.{frames_at, PendingView}

-- how many systems there are, the links and what is pending, and how many more can be put without being refused
pub record TrafficState : Type 0 where
  pub systems : ℕ
  pub net : Net
  pub room : ℕ

-- the two ports that a link joins, its end a first
abbrev pub join_of : Channel → Join
join_of channel = record { a = channel.a; b = channel.b }

-- a link with these frames in flight from its end a, and from its end b
abbrev pub channel_with : List Frame → List Frame → JoinedLink → Channel
channel_with from_a from_b link = record {
  a = link.join.a;
  b = link.join.b;
  bounds = link.bounds;
  up = link.up;
  from_a = from_a;
  from_b = from_b;
}

-- a link with nothing in flight
abbrev pub idle_channel : JoinedLink → Channel
idle_channel = channel_with [] []

-- the link at a place, with what is in flight on it
abbrev pub channel_at : List (List Frame) → ℕ → JoinedLink → Channel
channel_at frames place = channel_with (frames_at place FromA frames) (frames_at place FromB frames)

-- these links, the first of which is at this place
abbrev pub channels_from : List (List Frame) → ℕ → List JoinedLink → List Channel
channels_from frames place [] = []
channels_from frames place (link ∷ links) = channel_at frames place link ∷ channels_from frames (place + 1) links

-- the links and what is pending on them
abbrev pub net_of : List JoinedLink → PendingView → Net
net_of links pending = record { channels = channels_from pending.frames 0 links; pending = pending.entries }

-- what is pending has a place for each link, and bounds are such as links can have
pub record IsTraffic (joined : List JoinedLink) (pending : PendingView) : Type 0 where
  pub links : length joined ≡ pending.links
  pub fit : (place : ℕ) (link : JoinedLink) → slice_get joined place ≡ Some link → Fit link.bounds

-- One frame was sent: the fate drew once.
pub record SentOne {F : Type 0} (answers : Bounds → ℕ → F → Option ℕ → F → Type 0) (now : ℕ) (from : PortId)
    (octets : List ℕ) (fate fate_after : F) (net net_after : Net) : Type 0 where
  pub draw : Draw
  pub drawn : answers draw.bounds draw.sent fate draw.answer fate_after
  pub sends : SendsOne now from octets draw net net_after

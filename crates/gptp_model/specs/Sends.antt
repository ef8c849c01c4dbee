-- What a system sends goes onto its links.
use Rattle.std.specs.Prelude.{◌≡◌, ◌⊎◌, ℕ, true, false, List, [], ◌∷◌, ◌++◌, Option, Some, None, slice_get, slice_set}
use Rattle.gptp_vector.specs.declared.port.PortId.{PortId}
use Rattle.gptp_messages.specs.Grammar.{Written}
use Rattle.gptp_links.specs.declared.link.Direction.{Direction}
use Rattle.gptp_links.specs.Bounds.{IsLawful}
use Rattle.gptp_links.specs.Fate.{Draw}
use Rattle.gptp_links.specs.Queue.{frame, due_after}
use Rattle.gptp_system.specs.declared.sending.Sending.{Sending}
use Rattle.gptp_system.specs.Sends.{sent_message}
use Rattle.gptp_system.specs.State.{SystemState, own, trace}
use Rattle.gptp_model.specs.declared.item.Item.TheVariants.{Arrival}
use Rattle.gptp_model.specs.Pending.{put}
use Rattle.gptp_model.specs.World.{Channel, Net, sender, world_queue, with_queue}

-- The octets of a send: an Announce has the trace of its system as the call leaves it (IEEE 802.1AS-2020, 10.3.9.23).
abbrev pub written : SystemState → Sending → List ℕ
written s x = Written (sent_message (trace s) x.head x.body)

-- A frame is sent on a link in a direction with this fate: unless it is lost it goes after those in flight, and is
-- pending.
abbrev pub entered : ℕ → Direction → Channel → ℕ → List ℕ → Option ℕ → Net → Net
entered place direction channel now octets None net = net
entered place direction channel now octets (Some delay) net = record {
  channels = slice_set net.channels place
      (with_queue direction
      (world_queue direction channel ++ frame
      (due_after (world_queue direction channel) now delay) octets ∷ []) channel);
  pending = put (due_after (world_queue direction channel) now delay) (Arrival place direction) net.pending;
}

-- a frame is sent from a port, onto a link that is up and begins there, with a lawful fate
pub record SendsOne (now : ℕ) (from : PortId) (octets : List ℕ) (draw : Draw) (net net' : Net) : Type 0 where
  pub place : ℕ
  pub direction : Direction
  pub channel : Channel
  pub here : slice_get net.channels place ≡ Some channel
  pub begins : sender direction channel ≡ from
  pub up : channel.up ≡ true
  pub bounds : draw.bounds ≡ channel.bounds
  pub sent : draw.sent ≡ now
  pub lawful : IsLawful draw.bounds draw.answer
  pub after : net' ≡ entered place direction channel now octets draw.answer net

-- no link that is up begins at this port
abbrev pub IsUnlinkedPort : Net → PortId → Type 0
IsUnlinkedPort net from = (place : ℕ) (direction : Direction) (channel : Channel)
    → slice_get net.channels place ≡ Some channel
    → sender direction channel ≡ from → channel.up ≡ false

-- The sends of a system in their order, each with its own draw. Where no link is up nothing is sent, and nothing drawn.
abbrev pub SendsAll : ℕ → SystemState → List Sending → List Draw → Net → Net → Type 0
SendsAll now s [] draws net net' = (draws ≡ []) × (net' ≡ net)
SendsAll now s (x ∷ xs) draws net net' =
    ((draw : Draw) × (rest : List Draw) × (between : Net) × (draws ≡ draw ∷ rest)
    × SendsOne now (own s x.port) (written s x) draw net between × SendsAll now s xs rest between net')
    ⊎ (IsUnlinkedPort net (own s x.port) × SendsAll now s xs draws net net')

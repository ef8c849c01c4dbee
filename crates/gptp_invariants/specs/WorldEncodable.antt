-- What a world must be, besides sound, to be seen: its numbers fit the octets that are written of them, so that they
-- are read again as they were, and a link joins two ports. The world that a network makes is so, and every act leaves
-- it so.
use Rattle.std.specs.Prelude.{◌≡◌, ◌≢◌, ◌<◌, ◌^◌, ℕ, List, Some, slice_get}
use Rattle.std.specs.Option.{ForSome}
use Rattle.gptp_lists.specs.Members.{In}
use Rattle.gptp_links.specs.declared.link.Direction.{Direction}
use Rattle.gptp_links.specs.Queue.{Frame}
use Rattle.gptp_messages.specs.declared.announce.AnnounceView.{AnnounceView}
use Rattle.gptp_messages.specs.declared.message.Message.TheVariants as messages
use Rattle.gptp_messages.specs.Grammar.{Reads}
use Rattle.gptp_receipt.specs.declared.held.Held.{Held}
use Rattle.gptp_receipt.specs.declared.held.Reception.{Reception}
use Rattle.gptp_receipt.specs.Held.{received}
use Rattle.gptp_system.specs.State.{SystemState}
use Rattle.gptp_model.specs.declared.station.Station.{Station}
use Rattle.gptp_model.specs.World.{Channel, WorldState, world_queue}

-- each octet is a number below 256
abbrev pub AreOctets : List ℕ → Type 0
AreOctets octets = (x : ℕ) → In x octets → x < 256

-- each clock is a number of eight octets
abbrev pub AreClocks : List ℕ → Type 0
AreClocks path = (c : ℕ) → In c path → c < 2 ^ 64

-- an Announce says a root of fourteen octets, and a path of clocks
pub record SaysWhatFits (a : AnnounceView) : Type 0 where
  pub root : a.body.root < 2 ^ 112
  pub path : AreClocks a.path

-- each Announce that the octets read as says a root of fourteen octets, and a path of clocks
abbrev pub SayWhatFits : List ℕ → Type 0
SayWhatFits octets = (a : AnnounceView) → Reads octets (messages.Announce a) → SaysWhatFits a

-- what a port received has such a root and such a path
pub record ReceptionFits (r : Reception) : Type 0 where
  pub root : r.vector.root < 2 ^ 112
  pub path : AreClocks r.path

-- a system's identity has fourteen octets, and what its ports received fits
pub record SystemFits (s : SystemState) : Type 0 where
  pub identity : s.identity < 2 ^ 112
  pub held : (i : ℕ) (h : Held) → slice_get s.held i ≡ Some h → ForSome (received h) ReceptionFits

-- the system fits, and so does the identity that it starts with
pub record StationFits (station : Station) : Type 0 where
  pub system : SystemFits station.system
  pub setup : station.setup.identity < 2 ^ 112

-- a link joins two ports, and what is in flight on it says what fits
pub record ChannelFits (channel : Channel) : Type 0 where
  pub ends : channel.a ≢ channel.b
  pub frames : (direction : Direction) (f : Frame) → In f (world_queue direction channel) → SayWhatFits f.octets

-- all systems and links are so
pub record IsEncodable (w : WorldState) : Type 0 where
  pub stations : (place : ℕ) (station : Station) → slice_get w.stations place ≡ Some station → StationFits station
  pub links : (link : ℕ) (channel : Channel) → slice_get w.net.channels link ≡ Some channel → ChannelFits channel

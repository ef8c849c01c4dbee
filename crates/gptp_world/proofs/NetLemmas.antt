-- Which lane begins at a port, and what is known of its link.
use Rattle.std.proofs.Common.{◌≡◌, ℕ, false, Some, map, slice_get, refl, ap, sym, ◌∙◌}
use Rattle.std.proofs.lemmas.Option.{same_Some}
use Rattle.gptp_links.specs.declared.link.Direction.{Direction}
use Rattle.gptp_links.specs.declared.link.Direction.TheVariants.{FromA, FromB}
use Rattle.gptp_vector.specs.declared.port.PortId.{PortId}
use Rattle.gptp_traffic.specs.declared.joined_link.Lane.{Lane}
use Rattle.gptp_traffic.specs.Traffic.{join_of}
use Rattle.gptp_world.specs.declared.net.Net.{Net as Between}
use Rattle.gptp_world.specs.Directory.{direction_start, BeginsAt}
use Rattle.gptp_world.specs.Net.{between, IsNet}
use Rattle.gptp_model.specs.Sends.{IsUnlinkedPort}
use Rattle.gptp_model.specs.World.{Channel, sender}
use Rattle.gptp_lists.proofs.MappedLemmas.{mapped, mapped_there}

start_same : (d : Direction) (channel : Channel) → direction_start d (join_of channel) ≡ sender d channel
start_same FromA channel = refl
start_same FromB channel = refl

abbrev pub lane_of : ℕ → Direction → Lane
lane_of link direction = record { link = link; direction = direction }

-- the link of a lane that the directory knows stands among the links
pub known_channel : (net : Between) (port : PortId) (lane : Lane) → IsNet net → BeginsAt net.directory.joins port lane
    → (channel : Channel) × (slice_get net.traffic.net.channels lane.link ≡ Some channel)
    × (sender lane.direction channel ≡ port)
known_channel net port lane is begins =
    let there : slice_get (map join_of net.traffic.net.channels) lane.link ≡ Some begins.join =
    ap (λ js. slice_get js lane.link) is.joins ∙ begins.there in
    let made = mapped join_of net.traffic.net.channels lane.link begins.join there in
    let starts : sender lane.direction made.0 ≡ port =
    sym (start_same lane.direction made.0) ∙ (ap (direction_start lane.direction) made.2 ∙ begins.begins) in
    (made.0, made.1, starts)

-- a lane of a link begins where the directory says
pub known_lane : (net : Between) (port : PortId) (place : ℕ) (direction : Direction) (channel : Channel) → IsNet net
    → slice_get net.traffic.net.channels place ≡ Some channel → sender direction channel ≡ port
    → BeginsAt net.directory.joins port (lane_of place direction)
known_lane net port place direction channel is there begins = record {
  join = join_of channel;
  there = ap (λ js. slice_get js place) (sym is.joins)
      ∙ mapped_there join_of net.traffic.net.channels place channel there;
  begins = start_same direction channel ∙ begins;
}

-- no lane begins at the port
pub unlinked_none : (net : Between) (port : PortId) → IsNet net
    → ((lane : Lane) → BeginsAt net.directory.joins port lane → ⊥) → IsUnlinkedPort (between net) port
unlinked_none net port is none = λ place direction channel there begins.
    absurd (none (lane_of place direction) (known_lane net port place direction channel is there begins))

-- the one that does is of a link that is down
pub unlinked_down : (net : Between) (port : PortId) (lane : Lane) (down : Channel) → IsNet net
    → ((other : Lane) → BeginsAt net.directory.joins port other → lane ≡ other)
    → slice_get net.traffic.net.channels lane.link ≡ Some down → down.up ≡ false
    → IsUnlinkedPort (between net) port
unlinked_down net port lane down is only here off = λ place direction channel there begins.
    let one : lane ≡ lane_of place direction =
    only (lane_of place direction) (known_lane net port place direction channel is there begins) in
    let places : lane.link ≡ place = ap (λ (l : Lane). l.link) one in
    let same : channel ≡ down = same_Some channel down
    (sym there ∙ (ap (slice_get net.traffic.net.channels) (sym places) ∙ here)) in
    ap (λ (c : Channel). c.up) same ∙ off

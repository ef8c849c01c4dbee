-- Systems and lanes stand where their clocks and ports say.
use Rattle.std.proofs.Common.{◌≡◌, ℕ, zero, suc, Bool, true, false, List, [], ◌∷◌, Some, slice_get, refl, sym, ap, ◌∙◌}
use Rattle.std.specs.Prelude.{if◌then◌else◌, ◌==◌}
use Rattle.std.proofs.lemmas.Bool.{and_from, and_parts, both_ways, eq-eqb, eqb-true}
use Rattle.std.proofs.lemmas.Option.{none-some, same_Some}
use Rattle.gptp_graph.specs.Snapshot.{PortIdentity}
use Rattle.gptp_vector.specs.declared.port.PortId.{PortId}
use Rattle.gptp_links.specs.declared.link.Direction.{Direction}
use Rattle.gptp_links.specs.declared.link.Direction.TheVariants.{FromA, FromB}
use Rattle.gptp_system.specs.State.{clock}
use Rattle.gptp_model.specs.declared.station.Station.{Station}
use Rattle.gptp_model.specs.Sound.{HaveOwnClocks, IsSound}
use Rattle.gptp_model.specs.World.{Channel, WorldState, sender}
use Rattle.gptp_bmca_machine.specs.Frame.{Lane}
use Rattle.gptp_invariants.specs.WorldEncodable.{IsEncodable}
use Rattle.gptp_invariants.specs.ChoiceView.{port_identity_number, lane_place, lane_view, lanes_view}
use Rattle.gptp_invariants.proofs.ChoiceSeenLaneLemmas.{lane_there}
use Rattle.gptp_invariants.proofs.ChoiceSendLemmas.{world_apart}
use Rattle.gptp_invariants.specs.ChoiceCalm.{has_port_id, lane_of, clock_place}

-- ---- systems

-- a system with the clock stands at the place
abbrev FindsClock : List Station → ℕ → ℕ → Type 0
FindsClock stations number place =
    (at : Station) × (slice_get stations place ≡ Some at) × (clock at.system ≡ number)

clock_found : (stations : List Station) (number place : ℕ) (station : Station)
    → slice_get stations place ≡ Some station → clock station.system ≡ number
    → FindsClock stations number (clock_place stations number)
clock_found [] number place station here is = absurd (none-some station here)
clock_found (first ∷ stations) number zero station here is =
    let same = ap (λ (x : Station). clock x.system) (same_Some first station here) ∙ is in
    let one = eq-eqb (clock first.system) number same in
    rw one (first, refl, eqb-true (clock first.system) number one)
clock_found (first ∷ stations) number (suc place) station here is =
    by (clock first.system == number) refl (clock_found stations number place station here is)
  where
    by : (b : Bool) → (clock first.system == number) ≡ b → FindsClock stations number (clock_place stations number)
        → FindsClock (first ∷ stations) number (if b then 0 else suc (clock_place stations number))
    by true one later = (first, refl, eqb-true (clock first.system) number one)
    by false other later = later

-- and no other system has it
pub place_is : (w : WorldState) → HaveOwnClocks w → (place : ℕ) (station : Station)
    → slice_get w.stations place ≡ Some station → place ≡ clock_place w.stations (clock station.system)
place_is w own place station here =
    let number = clock station.system in
    let (at, there, same) = clock_found w.stations number place station here refl in
    own place (clock_place w.stations number) station at here there (sym same)

-- ---- lanes

-- a port by its clock and number
pub is_port_from : (p : PortId) (port : PortIdentity) → has_port_id p port ≡ true → port_identity_number p ≡ port
is_port_from p port same =
    let both = and_parts (p.clock == port.clock) (p.port == port.port) same in
    let clocks = eqb-true p.clock port.clock both.0 in
    let ports = eqb-true p.port port.port both.1 in
    λ i. record { clock = clocks i; port = ports i }

pub is_port_there : (p : PortId) (port : PortIdentity) → port_identity_number p ≡ port → has_port_id p port ≡ true
is_port_there p port same =
    and_from (p.clock == port.clock) (p.port == port.port)
    (eq-eqb p.clock port.clock (ap (λ (x : PortIdentity). x.clock) same))
    (eq-eqb p.port port.port (ap (λ (x : PortIdentity). x.port) same))

-- a lane that begins at the port stands at the place
abbrev FindsLane : List Channel → PortIdentity → ℕ → Type 0
FindsLane channels port place =
    (lane : Lane) × (slice_get (lanes_view channels) place ≡ Some lane) × (lane.from ≡ port)

-- Among the lanes of a link and those after it one is found, where it is found after if it isn't of this link.
first_or_later : (first : Channel) (channels : List Channel) (port : PortIdentity)
    → (has_port_id first.a port ≡ false → has_port_id first.b port ≡ false
    → FindsLane channels port (lane_of channels port))
    → FindsLane (first ∷ channels) port (lane_of (first ∷ channels) port)
first_or_later first channels port later = by (has_port_id first.a port) (has_port_id first.b port) refl refl
  where
    by : (a b : Bool) → has_port_id first.a port ≡ a → has_port_id first.b port ≡ b
        → FindsLane (first ∷ channels) port
        (if a then lane_place 0 FromA else (if b then lane_place 0 FromB else suc (suc (lane_of channels port))))
    by true b is is_b = (lane_view FromA first, refl, is_port_from first.a port is)
    by false true is is_b = (lane_view FromB first, refl, is_port_from first.b port is_b)
    by false false is is_b = later is is_b

lane_found : (channels : List Channel) (port : PortIdentity) (link : ℕ) (direction : Direction) (channel : Channel)
    → slice_get channels link ≡ Some channel → port_identity_number (sender direction channel) ≡ port
    → FindsLane channels port (lane_of channels port)
lane_found [] port link direction channel here begins = absurd (none-some channel here)
lane_found (first ∷ channels) port zero FromA channel here begins =
    let same = ap (λ (c : Channel). port_identity_number c.a) (same_Some first channel here) ∙ begins in
    first_or_later first channels port
    (λ off_a off_b. absurd (both_ways (has_port_id first.a port) off_a (is_port_there first.a port same)))
lane_found (first ∷ channels) port zero FromB channel here begins =
    let same = ap (λ (c : Channel). port_identity_number c.b) (same_Some first channel here) ∙ begins in
    first_or_later first channels port
    (λ off_a off_b. absurd (both_ways (has_port_id first.b port) off_b (is_port_there first.b port same)))
lane_found (first ∷ channels) port (suc link) direction channel here begins =
    let later = lane_found channels port link direction channel here begins in
    first_or_later first channels port (λ off_a off_b. later)

-- and no other lane begins there
pub lane_is : (w : WorldState) → IsSound w → IsEncodable w → (link : ℕ) (direction : Direction) (channel : Channel)
    → slice_get w.net.channels link ≡ Some channel
    → lane_place link direction ≡ lane_of w.net.channels (port_identity_number (sender direction channel))
lane_is w sound encodable link direction channel here =
    let port = port_identity_number (sender direction channel) in
    let (lane, there, begins) = lane_found w.net.channels port link direction channel here refl in
    world_apart w sound encodable (lane_place link direction) (lane_of w.net.channels port)
    (lane_view direction channel) lane (lane_there w.net.channels link direction channel here) there (sym begins)

-- Both ends of a link are told, one after the other.
use Rattle.std.proofs.Common.{◌≡◌, ℕ, List, Some, slice_get, sym, ap, subst, ◌∙◌, inl, inr}
use Rattle.gptp_lists.proofs.MappedLemmas.{same_there}
use Rattle.gptp_vector.specs.declared.port.PortId.{PortId}
use Rattle.gptp_links.specs.declared.link.Direction.{Direction}
use Rattle.gptp_links.specs.declared.link.Direction.TheVariants.{FromA, FromB}
use Rattle.gptp_links.specs.Fate.{Draw}
use Rattle.gptp_system.specs.declared.answer.Answer.{Answer}
use Rattle.gptp_system.specs.Input.{Input}
use Rattle.gptp_system.specs.State.{clock}
use Rattle.gptp_system.specs.Steps.{HasPortNumber}
use Rattle.gptp_model.specs.declared.station.Station.{Station}
use Rattle.gptp_model.specs.Act.{Calls}
use Rattle.gptp_model.specs.Ahead.{IsPortAmong}
use Rattle.gptp_model.specs.Changing.{CallsIfLive, IsStation, TellsEnds}
use Rattle.gptp_model.specs.Sound.{HaveTheirSetups}
use Rattle.gptp_model.specs.World.{Channel, WorldState, sender}
use Rattle.gptp_model.proofs.StayLemmas.{Stays, calls_if_live_stay, same_stays}

-- the port is one of the system at a place
abbrev pub HasPort : ℕ → PortId → WorldState → Type 0
HasPort place port w = (station : Station) → slice_get w.stations place ≡ Some station
    → (clock station.system ≡ port.clock) × HasPortNumber station.system port.port

pub stays_has_port : (place : ℕ) (port : PortId) (w w' : WorldState) → Stays w w' → HasPort place port w
    → HasPort place port w'
stays_has_port place port w w' stays has station there =
    let one = stays.stations place station there in
    let old = has one.old one.here in
    let at = old.1 in
    let count = one.same.count in
    (one.same.named ∙ old.0, record { least = at.least; most = rw count at.most })

-- it is where the system that has its clock stands
pub among_has : (place : ℕ) (port : PortId) (station : Station) (w : WorldState) → IsStation port.clock place w station
    → IsPortAmong port w.stations → HasPort place port w
among_has place port station w is among other there =
    let named : clock other.system ≡ port.clock =
    ap (λ (x : Station). clock x.system) (same_there w.stations place other station there is.here) ∙ is.named in
    (named, among place other there named)

-- every call by which an end of a link is told keeps this, where systems and links stay since a first world
abbrev pub EndCallsKeep : (ℕ → Input) → Channel → WorldState → (WorldState → Type 0) → Type 0
EndCallsKeep input channel first Is = (direction : Direction) (place : ℕ) (w : WorldState) (draws : List Draw)
    (answer : Answer) (w' : WorldState)
    → (k : Calls place (input (sender direction channel).port) w draws answer w') → Stays first w
    → clock k.station.system ≡ (sender direction channel).clock
    → HasPortNumber k.station.system (sender direction channel).port → Is w → Is w'

module _ (input : ℕ → Input) (channel : Channel) (first : WorldState) (Is : WorldState → Type 0)
    (called : EndCallsKeep input channel first Is) (setups : HaveTheirSetups first)
    (ports : (direction : Direction) → IsPortAmong (sender direction channel) first.stations) where
  end_told : (direction : Direction) (place : ℕ) (w : WorldState) (draws : List Draw) (w' : WorldState)
      → Stays first w → HasPort place (sender direction channel) w
      → CallsIfLive place (input (sender direction channel).port) w draws w' → Is w → Is w'
  end_told direction place w draws w' stays has (inl (answer, k)) is =
      let of = has k.station k.here in called direction place w draws answer w' k stays of.0 of.1 is
  end_told direction place w draws w' stays has (inr (failed, none, same)) is = subst Is (sym same) is

  pub each_end_told : (draws : List Draw) (w' : WorldState) → TellsEnds input channel first draws w' → Is first → Is w'
  each_end_told draws w' k is =
      let stays = calls_if_live_stay k.place_a (input channel.a.port) first k.first k.between setups k.at_a in
      end_told FromB k.place_b k.between k.second w' stays
      (stays_has_port k.place_b channel.b first k.between stays
      (among_has k.place_b channel.b k.station_b first k.is_b (ports FromB))) k.at_b
      (end_told FromA k.place_a first k.first k.between (same_stays first setups)
      (among_has k.place_a channel.a k.station_a first k.is_a (ports FromA)) k.at_a is)

-- Ports measure only at links that are up, also where a link comes up.
use Rattle.std.proofs.Common.{◌≡◌, ℕ, Bool, true, false, List, Some, slice_get, refl, sym, ap, subst, ◌∙◌, inl, inr}
use Rattle.gptp_vector.specs.declared.port.PortId.{PortId}
use Rattle.gptp_links.specs.declared.link.Direction.{Direction}
use Rattle.gptp_links.specs.declared.link.Direction.TheVariants.{FromA, FromB}
use Rattle.gptp_links.specs.Fate.{Draw}
use Rattle.gptp_system.specs.Input.{Input, PortUp}
use Rattle.gptp_system.specs.State.{SystemState, clock, own}
use Rattle.gptp_model.specs.declared.station.Station.{Station}
use Rattle.gptp_model.specs.Act.{in_state}
use Rattle.gptp_model.specs.Changing.{CallsIfLive, ComesUpIf, IsStation, TellsEnds, brought_up}
use Rattle.gptp_model.specs.World.{Channel, WorldState, port_id, sender}
use Rattle.gptp_lists.proofs.MappedLemmas.{same_there}
use Rattle.gptp_lists.proofs.PlaceLemmas.{get-set_same, set_each}
use Rattle.gptp_model.proofs.StayLemmas.{sender_same}
use Rattle.gptp_model.proofs.SteadyLemmas.{same_clock}
use Rattle.gptp_invariants.specs.DelayLinked.{BeginsLink, MeasureLinks}
use Rattle.gptp_invariants.proofs.DelayTimersLemmas.{KeepLinks, calls_links, keep_links, set_links}
use Rattle.gptp_invariants.proofs.DelayOnLinkLemmas.{IsDueThere, calls_measure, net_measure}

-- a system is called where it is live, and a port comes up only where a link that is up begins
pub calls_if_live_measure : (place : ℕ) (input : Input) (w : WorldState) (draws : List Draw) (w' : WorldState)
    → ((s : SystemState) → IsDueThere input s)
    → ((station : Station) → slice_get w.stations place ≡ Some station → (n : ℕ) → input ≡ PortUp n
    → BeginsLink w.net.channels (own station.system n))
    → MeasureLinks w → CallsIfLive place input w draws w' → MeasureLinks w'
calls_if_live_measure place input w draws w' out ups measure (inl (answer, calls)) =
    calls_measure place input w draws answer w' calls (out calls.station.system) (ups calls.station calls.here) measure
calls_if_live_measure place input w draws w' out ups measure (inr (failed, none, is)) =
    subst MeasureLinks (sym is) measure

pub calls_if_live_links : (place : ℕ) (input : Input) (w : WorldState) (draws : List Draw) (w' : WorldState)
    → CallsIfLive place input w draws w' → KeepLinks w.net.channels w'.net.channels
calls_if_live_links place input w draws w' (inl (answer, calls)) =
    subst (λ (v : WorldState). KeepLinks w.net.channels v.net.channels) (sym calls.is)
    (calls_links place input w draws answer w' calls)
calls_if_live_links place input w draws w' (inr (failed, none, is)) =
    subst (λ (v : WorldState). KeepLinks w.net.channels v.net.channels) (sym is) (keep_links w.net.channels)

-- the system with the clock of a port stands at this place
abbrev pub IsAt : PortId → ℕ → WorldState → Type 0
IsAt port place w =
    (station : Station) → slice_get w.stations place ≡ Some station → clock station.system ≡ port.clock

pub is_at : (port : PortId) (place : ℕ) (w : WorldState) (station : Station) → IsStation port.clock place w station
    → IsAt port place w
is_at port place w station is other there =
    ap (λ (x : Station). clock x.system) (same_there w.stations place other station there is.here) ∙ is.named

-- it is told that this port, at a link that is up, comes up
pub port_up_measures : (port : PortId) (place : ℕ) (w : WorldState) (draws : List Draw) (w' : WorldState)
    → IsAt port place w → BeginsLink w.net.channels port → MeasureLinks w
    → CallsIfLive place (PortUp port.port) w draws w' → MeasureLinks w'
port_up_measures port place w draws w' at begins =
    calls_if_live_measure place (PortUp port.port) w draws w' (λ s n is. absurd cc)
    (λ station there n is.
    let number : port.port ≡ n = cc in
    let itself : port ≡ own station.system n = ap (λ c. port_id c port.port) (sym (at station there))
    ∙ ap (own station.system) number in
    subst (BeginsLink w.net.channels) itself begins)

-- a call leaves every system its clock
pub calls_if_live_at : (port : PortId) (other place : ℕ) (input : Input) (w : WorldState) (draws : List Draw)
    (w' : WorldState) → CallsIfLive place input w draws w' → IsAt port other w → IsAt port other w'
calls_if_live_at port other place input w draws w' (inr (failed, none, is)) at = subst (IsAt port other) (sym is) at
calls_if_live_at port other place input w draws w' (inl (answer, calls)) at =
    subst (IsAt port other) (sym calls.is) (λ station there.
    set_each (λ i (x : Station). i ≡ other → clock x.system ≡ port.clock) w.stations place calls.station new calls.here
    (λ same. named ∙ at calls.station (ap (slice_get w.stations) (sym same) ∙ calls.here))
    (λ i x apart here same. at x (ap (slice_get w.stations) (sym same) ∙ here)) other station there refl)
  where
    new : Station
    new = in_state calls.after calls.station

    named : clock calls.after ≡ clock calls.station.system
    named = same_clock input w.time calls.station.system calls.after calls.sends answer calls.steps

-- both ends of a link that is up
ends_come_up : (channel : Channel) (w : WorldState) (draws : List Draw) (w' : WorldState)
    → ((direction : Direction) → BeginsLink w.net.channels (sender direction channel)) → MeasureLinks w
    → TellsEnds PortUp channel w draws w' → MeasureLinks w'
ends_come_up channel w draws w' begins measure k =
    port_up_measures channel.b k.place_b k.between k.second w'
    (calls_if_live_at channel.b k.place_b k.place_a (PortUp channel.a.port) w k.first k.between k.at_a
    (is_at channel.b k.place_b w k.station_b k.is_b))
    (calls_if_live_links k.place_a (PortUp channel.a.port) w k.first k.between k.at_a channel.b (begins FromB))
    (port_up_measures channel.a k.place_a w k.first k.between (is_at channel.a k.place_a w k.station_a k.is_a)
    (begins FromA) measure k.at_a)
    k.at_b

pub comes_up_measures : (up : Bool) (place : ℕ) (channel : Channel) (w : WorldState) (draws : List Draw)
    (w' : WorldState) → slice_get w.net.channels place ≡ Some channel → MeasureLinks w
    → ComesUpIf up place channel w draws w' → MeasureLinks w'
comes_up_measures true place channel w draws w' here measure (none, is) = subst MeasureLinks (sym is) measure
comes_up_measures false place channel w draws w' here measure k =
    ends_come_up channel brought draws w' begins kept k
  where
    new : Channel
    new = record channel { up = true }

    brought : WorldState
    brought = record w { net = brought_up place channel w.net }

    kept : MeasureLinks brought
    kept =
        net_measure w (brought_up place channel w.net)
        (set_links w.net.channels place channel new here refl refl (λ up. refl)) measure

    begins : (direction : Direction) → BeginsLink brought.net.channels (sender direction channel)
    begins direction = record {
      link = place;
      direction = direction;
      channel = new;
      here = get-set_same w.net.channels place channel new here;
      begins = sender_same direction channel new refl refl;
      up = refl;
    }

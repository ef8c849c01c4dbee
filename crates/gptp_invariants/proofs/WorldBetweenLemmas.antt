-- Links join ports of two systems, and no act changes which they join.
use Rattle.std.proofs.Common.{◌≡◌, ◌≤◌, ℕ, List, length, sym, ap, subst, ◌∙◌, arith}
use Rattle.std.proofs.lemmas.Option.{slice_get_within}
use Rattle.gptp_links.specs.Fate.{Draw}
use Rattle.gptp_vector.specs.declared.port.PortId.{PortId}
use Rattle.gptp_roles.specs.Selection.{clock_of}
use Rattle.gptp_system.specs.State.{clock}
use Rattle.gptp_system.proofs.StartLemmas.{length-new_ports}
use Rattle.gptp_scenario.specs.declared.change.Act.{Act}
use Rattle.gptp_model.specs.declared.done.Done.{Done}
use Rattle.gptp_scenario.specs.declared.network.LinkSpec.{LinkSpec}
use Rattle.gptp_model.specs.declared.station.Station.{Station}
use Rattle.gptp_model.specs.Acts.{Acts}
use Rattle.gptp_model.specs.Changing.{StartsAll}
use Rattle.gptp_model.specs.Initial.{channel_from, initial, setup_of, station_of, stations_of}
use Rattle.gptp_scenario.specs.Network.{IsNetwork, IsPort, IsWire, NetworkState}
use Rattle.gptp_model.specs.Sound.{IsSound}
use Rattle.gptp_model.specs.World.{WorldState}
use Rattle.gptp_lists.proofs.MappedLemmas.{mapped, mapped_there, same_there}
use Rattle.gptp_lists.proofs.PlaceLemmas.{member_there}
use Rattle.gptp_model.proofs.StayLemmas.{Stays, acts_stay, starts_all_stay}
use Rattle.gptp_invariants.specs.WorldStanding.{AreBetween, StationsHavePort, JoinsTwoOf}
use Rattle.gptp_invariants.proofs.WorldOutlineLemmas.{acts_count, count, starts_all_count}

-- ---- the world that a network makes

port_made : (n : NetworkState) → IsNetwork n → (port : PortId) → IsPort n.systems port
    → StationsHavePort (stations_of n) port
port_made n is port k =
    let setup = setup_of n k.system in
    let made : Station = station_of n k.system in
    let ports = length-new_ports (clock_of setup.identity) setup.params 1 setup.intervals.items
    ∙ (is.systems k.place k.system k.there).many in
    record {
      place = k.place;
      station = made;
      here = mapped_there (station_of n) n.systems k.place k.system k.there;
      named = k.clock;
      is = record { least = k.first; most = subst (λ count. port.port ≤ count) (sym ports) k.last };
    }

wire_made : (n : NetworkState) → IsNetwork n → (place : ℕ) (wire : LinkSpec) → IsWire n place wire
    → JoinsTwoOf (stations_of n) (channel_from wire)
wire_made n network place wire is =
    record { a = port_made n network wire.a is.a; b = port_made n network wire.b is.b; apart = is.apart }

pub networks_between : (n : NetworkState) → IsNetwork n → AreBetween (initial n)
networks_between n is link channel here =
    let (wire, stands, same) = mapped channel_from n.links link channel here in
    subst (JoinsTwoOf (stations_of n)) same (wire_made n is link wire (is.links link wire stands))

-- ---- what stays

-- where systems stay, and are as many as they were, each has the ports that it had
port_stays : (w w' : WorldState) → Stays w w' → count w' ≡ count w → (port : PortId) → StationsHavePort w.stations port
    → StationsHavePort w'.stations port
port_stays w w' stays same port k =
    let within = slice_get_within w.stations k.place k.station k.here in
    let (new, there) = member_there w'.stations k.place (omega arith) in
    let was = stays.stations k.place new there in
    let old = same_there w.stations k.place was.old k.station was.here k.here in
    let ports = was.same.count ∙ ap (λ (x : Station). length x.system.ports) old in
    record {
      place = k.place;
      station = new;
      here = there;
      named = was.same.named ∙ ap (λ (x : Station). clock x.system) old ∙ k.named;
      is = record { least = k.is.least; most = subst (λ n. port.port ≤ n) (sym ports) k.is.most };
    }

stays_between : (w w' : WorldState) → Stays w w' → count w' ≡ count w → AreBetween w → AreBetween w'
stays_between w w' stays same between link channel here =
    let was = stays.links link channel here in
    let is = between link was.old was.here in
    let number : PortId → ℕ = λ p. p.clock in
    record {
      a = subst (StationsHavePort w'.stations) (sym was.a) (port_stays w w' stays same was.old.a is.a);
      b = subst (StationsHavePort w'.stations) (sym was.b) (port_stays w w' stays same was.old.b is.b);
      apart = λ one. is.apart (ap number (sym was.a) ∙ one ∙ ap number was.b);
    }

pub starts_between : (places : List ℕ) (w : WorldState) (draws : List Draw) (w' : WorldState) → IsSound w
    → AreBetween w → StartsAll places w draws w' → AreBetween w'
starts_between places w draws w' sound between k =
    stays_between w w' (starts_all_stay places w draws w' sound.wired.setups k)
    (starts_all_count places w draws w' k) between

-- ---- acts

pub acts_between : (act : Act) (w : WorldState) (draws : List Draw) (done : Done) (w' : WorldState) → IsSound w
    → AreBetween w → Acts act w draws done w' → AreBetween w'
acts_between act w draws done w' sound between k =
    stays_between w w' (acts_stay act w draws done w' sound.wired.setups k) (acts_count act w draws done w' k) between

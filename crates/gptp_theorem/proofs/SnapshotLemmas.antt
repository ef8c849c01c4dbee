-- What stands in a world that a network and its events lead to is what stands of the network after them.
use Rattle.std.proofs.Common.{◌≡◌, ◌∙◌, ℕ, Bool, true, false, List, [], ◌∷◌, length, map, filter, Some, None, zero, suc, slice_get, refl, sym, ap, subst}
use Rattle.std.specs.Prelude.{if◌then◌else◌, ◌&&◌, ◌||◌, ◌==◌}
use Rattle.std.specs.List.{cons_option, filter_map}
use Rattle.std.specs.List.Sorted.{IsPermutation}
use Rattle.std.proofs.lemmas.List.Sorted.{list_any-IsPermutation}
use Rattle.gptp_graph.specs.Snapshot.{Link, Snapshot, System}
use Rattle.gptp_vector.specs.declared.port.PortId.{PortId}
use Rattle.gptp_roles.specs.Selection.{clock_of}
use Rattle.gptp_scenario.specs.declared.change.Act.{Act}
use Rattle.gptp_scenario.specs.declared.change.Act.TheVariants.{Deliver, Expire, Change as Changing}
use Rattle.gptp_scenario.specs.declared.change.Change.{Change}
use Rattle.gptp_scenario.specs.declared.change.Change.TheVariants.{LinkDown, LinkUp, LinkSet, Fail, Recover, Priority1, Inject}
use Rattle.gptp_scenario.specs.declared.change.Timed.{Timed}
use Rattle.gptp_scenario.specs.declared.network.SystemSpec.{SystemSpec}
use Rattle.gptp_scenario.specs.declared.network.LinkSpec.{LinkSpec}
use Rattle.gptp_model.specs.declared.station.Station.{Station}
use Rattle.gptp_scenario.specs.Change.{is_at, joined_after, link_acted, link_after, link_changed, live_after, system_after, member_with_bounds, with_up}
use Rattle.gptp_scenario.specs.Network.{NetworkState}
use Rattle.gptp_model.specs.Sound.{IsSound}
use Rattle.gptp_model.specs.World.{Channel, WorldState}
use Rattle.gptp_network.specs.Snapshot as network
use Rattle.gptp_network.specs.Snapshot.{StandsAfter, joins_two, link_of}
use Rattle.gptp_invariants.specs.WorldStanding.{stations_have_clock, live_stations, snapshot_of, standing_system, used_channels}
use Rattle.gptp_theorem.specs.Reached.{Shape, StandsAsPlanned, shape, shape_after, channel_wire}

-- ---- systems

-- a system that stands so, as a snapshot has it
abbrev pub system_of : Shape → System
system_of s = record { clock = clock_of s.identity; identity = s.identity; ports = s.setup.ports }

-- the live ones of systems that stand so
abbrev pub living : List Shape → List System
living [] = []
living (s ∷ shapes) = if s.live then system_of s ∷ living shapes else living shapes

-- each has as many ports as it starts with
abbrev HaveTheirPorts : List Station → Type 0
HaveTheirPorts stations = (place : ℕ) (station : Station) → slice_get stations place ≡ Some station
    → length station.system.ports ≡ station.setup.ports

world_living : (stations : List Station) → HaveTheirPorts stations
    → live_stations stations ≡ living (map shape stations)
world_living [] have = refl
world_living (first ∷ stations) have =
    by first.live (have zero first refl) (world_living stations (λ place. have (suc place)))
  where
    by : (live : Bool) → length first.system.ports ≡ first.setup.ports
        → live_stations stations ≡ living (map shape stations)
        → (if live then standing_system first ∷ live_stations stations else live_stations stations)
        ≡ (if live
        then system_of (record {
          setup = first.setup;
          live = live;
          identity = if live then first.system.identity else first.setup.identity;
        }) ∷ living (map shape stations)
        else living (map shape stations))
    by true ports rest =
        ap (λ count. record {
          clock = clock_of first.system.identity;
          identity = first.system.identity;
          ports = count;
        } ∷ live_stations stations) ports
        ∙ ap (λ ss. record {
          clock = clock_of first.system.identity;
          identity = first.system.identity;
          ports = first.setup.ports;
        } ∷ ss) rest
    by false ports rest = rest

network_living : (n : NetworkState) (events : List Timed) (members : List SystemSpec)
    → network.live_systems members events ≡ living (map (shape_after n events) members)
network_living n events [] = refl
network_living n events (m ∷ members) = by (system_after events m).live (network_living n events members)
  where
    by : (live : Bool) → network.live_systems members events ≡ living (map (shape_after n events) members)
        → map network.system_of
        (cons_option (if live then Some ((system_after events m).identity, m.ports) else None)
        (filter_map (live_after events) members))
        ≡ (if live
        then system_of (shape_after n events m) ∷ living (map (shape_after n events) members)
        else living (map (shape_after n events) members))
    by true rest = ap (λ ss. system_of (shape_after n events m) ∷ ss) rest
    by false rest = rest

pub systems_stand : (n : NetworkState) (events : List Timed) (w : WorldState) → StandsAsPlanned n events w → IsSound w
    → live_stations w.stations ≡ network.live_systems n.systems events
systems_stand n events w so sound =
    world_living w.stations (λ place station here. (sound.wired.setups place station here).ports)
    ∙ ap living so.systems ∙ sym (network_living n events n.systems)

-- ---- links

-- the ends of a link stay
abbrev ends : LinkSpec → PortId × PortId
ends v = (v.a, v.b)

either : (test : Bool) (x y : LinkSpec) → ends x ≡ ends y → ends (if test then x else y) ≡ ends y
either true x y same = same
either false x y same = refl

changed_ends : (change : Change) (v : LinkSpec) → ends (link_changed change v) ≡ ends v
changed_ends (LinkDown number port) v = either (is_at number port v) (with_up false v) v refl
changed_ends (LinkUp number port) v = either (is_at number port v) (with_up true v) v refl
changed_ends (LinkSet number port least greatest loss) v =
    either (is_at number port v) (member_with_bounds least greatest loss v) v refl
changed_ends (Fail number) v = refl
changed_ends (Recover number) v = refl
changed_ends (Priority1 number value) v = refl
changed_ends (Inject number port octets) v = refl

acted_ends : (act : Act) (v : LinkSpec) → ends (link_acted act v) ≡ ends v
acted_ends (Deliver link direction) v = refl
acted_ends (Expire number timer) v = refl
acted_ends (Changing change) v = changed_ends change v

ends_after : (events : List Timed) (v : LinkSpec) → ends (link_after events v) ≡ ends v
ends_after [] v = refl
ends_after (t ∷ events) v = ends_after events (link_acted t.act v) ∙ acted_ends t.act v

-- a link of these ends, before others, where it is up and both its ends live
abbrev used_before : (ℕ → Bool) → Bool → PortId × PortId → List Link → List Link
used_before has up (a, b) rest = if up && (has a.clock && has b.clock) then link_of (a, b) ∷ rest else rest

-- the links in use of some wires
abbrev used : (ℕ → Bool) → List LinkSpec → List Link
used has [] = []
used has (v ∷ wires) = used_before has v.up (v.a, v.b) (used has wires)

world_used : (systems : List System) (channels : List Channel)
    → used_channels systems channels ≡ used (stations_have_clock systems) (map channel_wire channels)
world_used systems [] = refl
world_used systems (channel ∷ channels) =
    ap (used_before (stations_have_clock systems) channel.up (channel.a, channel.b)) (world_used systems channels)

network_used : (events : List Timed) (systems : List System) (wires : List LinkSpec)
    → network.used_links wires events systems ≡ used (network.has_clock systems) (map (link_after events) wires)
network_used events systems [] = refl
network_used events systems (v ∷ wires) =
    by (link_after events v).up (network_used events systems wires)
    ∙ ap (λ e. used_before has (link_after events v).up e others) (sym (ends_after events v))
  where
    has : ℕ → Bool
    has = network.has_clock systems

    others : List Link
    others = used has (map (link_after events) wires)

    by : (up : Bool) → network.used_links wires events systems ≡ others
        → filter (joins_two systems) (map link_of
        (cons_option (if up then Some (v.a, v.b) else None) (filter_map (joined_after events) wires)))
        ≡ used_before has up (v.a, v.b) others
    by true rest = ap (used_before has true (v.a, v.b)) rest
    by false rest = rest

any_clock : (systems : List System) (number : ℕ) → stations_have_clock systems number ≡ network.has_clock systems number
any_clock [] number = refl
any_clock (s ∷ systems) number = ap (λ more. (s.clock == number) || more) (any_clock systems number)

-- ---- the whole world

systems_move : (n : NetworkState) (events : List Timed) (w : WorldState) (g : Snapshot) → StandsAsPlanned n events w
    → IsSound w → StandsAfter n events g
    → IsPermutation (live_stations w.stations) g.systems
systems_move n events w g so sound stands =
    subst (λ ss. IsPermutation ss g.systems) (sym (systems_stand n events w so sound)) stands.systems

-- the same systems have clocks
pub clocks_stand : (n : NetworkState) (events : List Timed) (w : WorldState) (g : Snapshot) → StandsAsPlanned n events w
    → IsSound w → StandsAfter n events g
    → (number : ℕ) → stations_have_clock (live_stations w.stations) number ≡ network.has_clock g.systems number
clocks_stand n events w g so sound stands number =
    any_clock (live_stations w.stations) number
    ∙ list_any-IsPermutation (λ (s : System). s.clock == number) (live_stations w.stations) g.systems
    (systems_move n events w g so sound stands)

pub snapshots_stand : (n : NetworkState) (events : List Timed) (w : WorldState) (g : Snapshot)
    → StandsAsPlanned n events w → IsSound w → StandsAfter n events g
    → IsPermutation (snapshot_of w).systems g.systems × ((snapshot_of w).links ≡ g.links)
snapshots_stand n events w g so sound stands = (systems_move n events w g so sound stands, links)
  where
    systems : List System
    systems = live_stations w.stations

    same_clocks : stations_have_clock systems ≡ network.has_clock g.systems
    same_clocks = λ i number. clocks_stand n events w g so sound stands number i

    links : used_channels systems w.net.channels ≡ g.links
    links =
        world_used systems w.net.channels ∙ ap (used (stations_have_clock systems)) so.links
        ∙ ap (λ has. used has (map (link_after events) n.links)) same_clocks
        ∙ sym (network_used events g.systems n.links) ∙ sym stands.links

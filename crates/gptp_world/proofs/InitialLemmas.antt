-- The world that a network makes is sound before its systems start, and the code can keep it.
use Rattle.std.proofs.Common.{◌≡◌, ◌≤◌, ℕ, ℤ, Bool, false, List, [], ◌∷◌, map, length, Option, Some, None, option_map, slice_get, refl, sym, ap, subst, ◌∙◌, inl, inr, to_z, of_z, w8, w32, arith}
use Rattle.std.proofs.lemmas.Int.{ints, to_z-of_z}
use Rattle.std.proofs.lemmas.List.{length-map}
use Rattle.std.proofs.lemmas.Option.{same_Some}
use Rattle.arrayvec.specs.ArrayVec.{ArrayVec}
use Rattle.gptp_setup.specs.declared.limits.TheConstants.{MOST_PORTS}
use Rattle.gptp_setup.specs.Intervals.{AreIntervals, IsLog}
use Rattle.gptp_setup.specs.declared.setup.Params.{Params}
use Rattle.gptp_setup.specs.declared.setup.Setup.{Setup}
use Rattle.gptp_links.specs.Bounds.{Fit}
use Rattle.gptp_links.specs.declared.bounds.Bounds.{Bounds}
use Rattle.gptp_links.specs.declared.link.Direction.{Direction}
use Rattle.gptp_links.specs.declared.link.Direction.TheVariants.{FromA, FromB}
use Rattle.gptp_pdelay.specs.Clock.{IsDrift}
use Rattle.gptp_roles.specs.Selection.{clock_of}
use Rattle.gptp_system.proofs.StartLemmas.{length-new_ports}
use Rattle.gptp_system.proofs.WindowLemmas.{starts_measuring_over}
use Rattle.gptp_system.specs.State.{clock}
use Rattle.gptp_vector.specs.declared.port.PortId.{PortId}
use Rattle.gptp_traffic.specs.declared.joined_link.Lane.{Lane}
use Rattle.gptp_world.specs.declared.net.Net.{Net as Between}
use Rattle.gptp_scenario.specs.declared.network.SystemSpec.{SystemSpec}
use Rattle.gptp_scenario.specs.declared.network.LinkSpec.{LinkSpec}
use Rattle.gptp_world.specs.declared.world_parts.WorldParts.{WorldParts}
use Rattle.gptp_model.specs.declared.station.Station.{Station}
use Rattle.gptp_model.specs.Agrees.{Agrees}
use Rattle.gptp_model.specs.Ahead.{IsOnTime, IsWorldOnTime}
use Rattle.gptp_traffic.specs.Traffic.{join_of}
use Rattle.gptp_world.specs.Directory.{Join, directory_clocks, joins_of, direction_start, BeginsAt}
use Rattle.gptp_model.specs.Initial.{channel_from, channels_of, initial, setup_of, station_of, stations_of}
use Rattle.gptp_world.specs.Net.{IsNet}
use Rattle.gptp_model.specs.World.{port_id}
use Rattle.gptp_scenario.specs.Network.{largest_of, member, NetworkState, IsEnd, IsNetwork, IsPort, IsWire}
use Rattle.gptp_scenario.proofs.LogLemmas.{largest_log, logs_up_to}
use Rattle.gptp_model.specs.Sound.{AllFlow, AreApart, AreLinked, Flows, HaveOwnClocks, HaveTheirSetups, IsItsSetup, IsSound, JoinPorts}
use Rattle.gptp_world.specs.WorldParts.{clock_at_place, IsWorldParts}
use Rattle.gptp_model.specs.World.{Channel, world_queue, sender}
use Rattle.gptp_model.proofs.ChangeAgreeLemmas.{silent_agrees}
use Rattle.gptp_lists.proofs.MappedLemmas.{mapped, same_there}
use Rattle.gptp_model.proofs.SteadyLemmas.{started_none_late, started_steady}

-- ---- systems and links of a network

-- what is true of each system of the network as it is before it starts is true of each of the world
each_station : (n : NetworkState) (P : Station → Type 0)
    → ((place : ℕ) (m : SystemSpec) → slice_get n.systems place ≡ Some m → P (station_of n m))
    → (place : ℕ) (station : Station) → slice_get (stations_of n) place ≡ Some station → P station
each_station n P so place station there =
    let x = mapped (station_of n) n.systems place station there in subst P x.2 (so place x.0 x.1)

-- and so it is with links
each_channel : (n : NetworkState) (P : Channel → Type 0)
    → ((place : ℕ) (w : LinkSpec) → slice_get n.links place ≡ Some w → P (channel_from w))
    → (place : ℕ) (channel : Channel) → slice_get (channels_of n) place ≡ Some channel → P channel
each_channel n P so place channel there =
    let x = mapped channel_from n.links place channel there in subst P x.2 (so place x.0 x.1)

-- ---- what a network tells of a place

told_of : {X Y : Type 0} (f : X → Y) (found : Option X) (told : Y) → option_map f found ≡ Some told
    → (x : X) × (found ≡ Some x) × (f x ≡ told)
told_of f None told e = absurd cc
told_of f (Some x) told e = (x, refl, same_Some (f x) told e)

-- the system that is told of
pub member_told : (n : NetworkState) (place : ℕ) (found : Option (ℕ × ℕ × ℕ × ℤ × ArrayVec ℤ))
    (told : ℕ × ℕ × ℕ × ℤ × ArrayVec ℤ) (flag : Option Bool) (continues : Bool)
    → found ≡ option_map (λ (m : SystemSpec). (m.identity, m.ports, m.phase, m.drift, m.intervals))
    (slice_get n.systems place)
    → found ≡ Some told → flag ≡ option_map (λ (m : SystemSpec). m.continues) (slice_get n.systems place)
    → flag ≡ Some continues
    → slice_get n.systems place ≡ Some (member told.0 told.1 told.2 told.3 continues told.4)
member_told n place found told flag continues is some flag_is on =
    let tells : SystemSpec → ℕ × ℕ × ℕ × ℤ × ArrayVec ℤ = λ m. (m.identity, m.ports, m.phase, m.drift, m.intervals) in
    let x = told_of tells (slice_get n.systems place) told (sym is ∙ some) in
    let same : x.0.continues ≡ continues =
    same_Some x.0.continues continues
    (sym (ap (option_map (λ (m : SystemSpec). m.continues)) x.1) ∙ sym flag_is ∙ on) in
    x.1 ∙ ap (λ b. Some (member x.0.identity x.0.ports x.0.phase x.0.drift b x.0.intervals)) same
    ∙ ap (λ (v : ℕ × ℕ × ℕ × ℤ × ArrayVec ℤ). Some (member v.0 v.1 v.2 v.3 continues v.4)) x.2

-- its drift fits the machine's number
pub drift_back : (drift : ℤ) → IsDrift drift → to_z w32 (of_z w32 drift) ≡ drift
drift_back drift is = let low = is.low in let high = is.high in to_z-of_z w32 drift (omega (arith, ints))

-- so does an interval
log_back : (log : ℤ) → IsLog log → to_z w8 (of_z w8 log) ≡ log
log_back log is = let low = is.low in let high = is.high in to_z-of_z w8 log (omega (arith, ints))

-- what is made of a member told of, of the largest interval and the parameters is what it starts with
pub set_up : (n : NetworkState) (m : SystemSpec) (made : Setup) (largest : ℤ) (seed : ℕ) (params : Params)
    → IsDrift m.drift → IsLog largest → largest ≡ largest_of n → seed ≡ n.seed → params ≡ n.params
    → made ≡ record {
      identity = m.identity;
      ports = m.ports;
      phase = m.phase;
      drift = to_z w32 (of_z w32 m.drift);
      continues = m.continues;
      intervals = m.intervals;
      largest = to_z w8 (of_z w8 largest);
      seed = seed;
      params = params;
    }
    → made ≡ setup_of n m
set_up n m made largest seed params drift log is drawn same so =
    rw (drift_back m.drift drift, log_back largest log, is, drawn, same) at so

-- a link with these ends and bounds
abbrev pub joining : PortId → PortId → Bounds → Bool → LinkSpec
joining a b bounds up = record { a = a; b = b; bounds = bounds; up = up }

-- the link that is told of
pub wire_told : (n : NetworkState) (place : ℕ) (found : Option (PortId × PortId × Bounds × Bool))
    (told : PortId × PortId × Bounds × Bool)
    → found ≡ option_map (λ (w : LinkSpec). (w.a, w.b, w.bounds, w.up)) (slice_get n.links place)
    → found ≡ Some told → slice_get n.links place ≡ Some (joining told.0 told.1 told.2 told.3)
wire_told n place found told is some =
    let tells : LinkSpec → PortId × PortId × Bounds × Bool = λ w. (w.a, w.b, w.bounds, w.up) in
    let x = told_of tells (slice_get n.links place) told (sym is ∙ some) in
    x.1 ∙ ap (λ (v : PortId × PortId × Bounds × Bool). Some (joining v.0 v.1 v.2 v.3)) x.2

-- ---- the world is sound

ports_counted : (n : NetworkState) → IsNetwork n → (place : ℕ) (m : SystemSpec) → slice_get n.systems place ≡ Some m
    → length (station_of n m).system.ports ≡ m.ports
ports_counted n is place m there =
    length-new_ports (clock_of m.identity) n.params 1 m.intervals.items ∙ (is.systems place m there).many

-- a system's ports announce at its intervals, none of which is above the largest of the network
pub intervals_within : (n : NetworkState) → IsNetwork n → (place : ℕ) (m : SystemSpec)
    → slice_get n.systems place ≡ Some m → AreIntervals (setup_of n m)
intervals_within n is place m there = record {
  many = (is.systems place m there).many;
  each = logs_up_to n (λ i k at. (is.systems i k at).logs) place m there;
  largest = largest_log n is;
}

pub initial_setups : (n : NetworkState) → IsNetwork n → HaveTheirSetups (initial n)
initial_setups n is = each_station n IsItsSetup (λ place m there.
    let limits = is.systems place m there in record {
      ports = ports_counted n is place m there;
      few = limits.ports;
      phase = limits.phase;
      drift = limits.drift;
      intervals = intervals_within n is place m there;
      named = refl;
      windows = starts_measuring_over (setup_of n m) 0;
    })

sends_from_end : (direction : Direction) (w : LinkSpec) → IsEnd (sender direction (channel_from w)) w
sends_from_end FromA w = inl refl
sends_from_end FromB w = inr refl

pub initial_apart : (n : NetworkState) → IsNetwork n → AreApart (initial n)
initial_apart n is link other direction way channel at here there same =
    let x = mapped channel_from n.links link channel here in
    let y = mapped channel_from n.links other at there in
    let one : sender way (channel_from y.0) ≡ sender direction (channel_from x.0) =
    ap (sender way) y.2 ∙ sym same ∙ sym (ap (sender direction) x.2) in
    is.one_link link other x.0 y.0 (sender direction (channel_from x.0)) x.1 y.1 (sends_from_end direction x.0)
    (subst (λ (p : PortId). IsEnd p y.0) one (sends_from_end way y.0))

idle_flows : (direction : Direction) (w : LinkSpec) → Flows direction (channel_from w)
idle_flows FromA w = record { order = tt; still = λ down. refl }
idle_flows FromB w = record { order = tt; still = λ down. refl }

pub initial_flow : (n : NetworkState) → AllFlow (initial n)
initial_flow n link direction =
    each_channel n (Flows direction) (λ place w there. idle_flows direction w) link

-- no system is live yet
pub initial_silent : (n : NetworkState) (place : ℕ) (station : Station) → slice_get (stations_of n) place ≡ Some station
    → station.live ≡ false
initial_silent n = each_station n (λ (station : Station). station.live ≡ false) (λ place m there. refl)

pub initial_linked : (n : NetworkState) → AreLinked (initial n)
initial_linked n link place direction channel station here up there live named =
    let silent = initial_silent n place station there in absurd cc

initial_on_time-station : (n : NetworkState) → IsNetwork n → (place : ℕ) (station : Station)
    → slice_get (stations_of n) place ≡ Some station → IsOnTime 0 station
initial_on_time-station n is = each_station n (IsOnTime 0) (λ place m there. record {
  setup = is.params.ranges.params;
  steady = started_steady (setup_of n m) 0 is.params.ranges.params (intervals_within n is place m there);
  timers = λ live. started_none_late (setup_of n m) 0;
})

pub initial_on_time : (n : NetworkState) → IsNetwork n → IsWorldOnTime (initial n)
initial_on_time n is = record {
  stations = initial_on_time-station n is;
  links = each_channel n (λ (channel : Channel). Fit channel.bounds) (λ place w there. (is.links place w there).fit);
  pending = λ k d l. omega arith;
}

idle_queue : (direction : Direction) (w : LinkSpec) → world_queue direction (channel_from w) ≡ []
idle_queue FromA w = refl
idle_queue FromB w = refl

pub initial_agrees : (n : NetworkState) → Agrees (initial n)
initial_agrees n = silent_agrees (initial n) (initial_silent n)
    (λ link direction. each_channel n (λ (channel : Channel). world_queue direction channel ≡ [])
    (λ place w there. idle_queue direction w) link) refl

-- no two systems have one clock
pub initial_clocks : (n : NetworkState) → IsNetwork n → HaveOwnClocks (initial n)
initial_clocks n is place other station at here there same =
    let x = mapped (station_of n) n.systems place station here in
    let y = mapped (station_of n) n.systems other at there in
    let one : clock (station_of n x.0).system ≡ clock (station_of n y.0).system =
    ap (λ (s : Station). clock s.system) x.2 ∙ same ∙ sym (ap (λ (s : Station). clock s.system) y.2) in
    is.clocks place other x.0 y.0 x.1 y.1 one

end_port : (n : NetworkState) (direction : Direction) (w : LinkSpec) (i : ℕ) → IsWire n i w
    → IsPort n.systems (sender direction (channel_from w))
end_port n FromA w i is = is.a
end_port n FromB w i is = is.b

-- a link joins ports that systems have
pub initial_ports : (n : NetworkState) → IsNetwork n → JoinPorts (initial n)
initial_ports n is link place direction channel station here there named =
    let x = mapped channel_from n.links link channel here in
    let y = mapped (station_of n) n.systems place station there in
    let port = subst (λ c. IsPort n.systems (sender direction c)) x.2
    (end_port n direction x.0 link (is.links link x.0 x.1)) in
    let one : clock_of y.0.identity ≡ clock_of port.system.identity =
    ap (λ (s : Station). clock s.system) y.2 ∙ named ∙ sym port.clock in
    let same : place ≡ port.place = is.clocks place port.place y.0 port.system y.1 port.there one in
    let members : y.0 ≡ port.system =
    same_Some y.0 port.system (sym y.1 ∙ (ap (slice_get n.systems) same ∙ port.there)) in
    let count : length station.system.ports ≡ port.system.ports =
    ap (λ (s : Station). length s.system.ports) (sym y.2)
    ∙ (ports_counted n is place y.0 y.1 ∙ ap (λ (m : SystemSpec). m.ports) members) in
    let last = port.last in
    record { least = port.first; most = rw count last }

-- the world of a network is sound before its systems start
pub initial_sound : (n : NetworkState) → IsNetwork n → IsSound (initial n)
initial_sound n is = record {
  wired = record {
    setups = initial_setups n is;
    clocks = initial_clocks n is;
    ports = initial_ports n is;
    apart = initial_apart n is;
    flow = initial_flow n;
    linked = initial_linked n;
  };
  on_time = initial_on_time n is;
  agrees = initial_agrees n;
}

-- ---- the code's tables

-- the joins follow from the links
joined : (wires : List LinkSpec) → map join_of (map channel_from wires) ≡ joins_of wires
joined [] = refl
joined (w ∷ wires) = ap (λ (joins : List Join). record { a = w.a; b = w.b } ∷ joins) (joined wires)

pub idle_net : (n : NetworkState) (net : Between) → net.traffic.net.channels ≡ channels_of n
    → net.directory.joins ≡ joins_of n.links → IsNet net
idle_net n net channels joins = record { joins = ap (map join_of) channels ∙ joined n.links ∙ sym joins }

clocks_kept : (n : NetworkState) (systems : List SystemSpec)
    → map clock_at_place (map (station_of n) systems) ≡ directory_clocks systems
clocks_kept n [] = refl
clocks_kept n (m ∷ systems) = ap (λ rest. clock_of m.identity ∷ rest) (clocks_kept n systems)

-- a link begins at a port of a system of the network
begins_at_port : (n : NetworkState) (place : ℕ) (direction : Direction) (w : LinkSpec) → IsWire n place w
    → IsPort n.systems (direction_start direction (record { a = w.a; b = w.b }))
begins_at_port n place FromA w is = is.a
begins_at_port n place FromB w is = is.b

port_counted : (n : NetworkState) → IsNetwork n → (place : ℕ) (m : SystemSpec) (p : ℕ) (lane : Lane)
    → slice_get n.systems place ≡ Some m → BeginsAt (joins_of n.links) (port_id (clock_of m.identity) p) lane
    → (1 ≤ p) × (p ≤ m.ports)
port_counted n is place m p lane here begins =
    let join_from : LinkSpec → Join = λ w. record { a = w.a; b = w.b } in
    let x = mapped join_from n.links lane.link begins.join begins.there in
    let port : IsPort n.systems (port_id (clock_of m.identity) p) =
    subst (IsPort n.systems) (ap (direction_start lane.direction) x.2 ∙ begins.begins)
    (begins_at_port n lane.link lane.direction x.0 (is.links lane.link x.0 x.1)) in
    let same : port.place ≡ place = is.clocks port.place place port.system m port.there here port.clock in
    let one : port.system ≡ m =
    same_there n.systems place port.system m (ap (slice_get n.systems) (sym same) ∙ port.there) here in
    (port.first, subst (λ (x : SystemSpec). p ≤ x.ports) one port.last)

abbrev HasItsLanes : NetworkState → Station → Type 0
HasItsLanes n station = (p : ℕ) (lane : Lane) → BeginsAt (joins_of n.links) (port_id (clock station.system) p) lane
    → (1 ≤ p) × (p ≤ length station.system.ports)

have_lanes : (n : NetworkState) → IsNetwork n → (place : ℕ) (station : Station)
    → slice_get (stations_of n) place ≡ Some station → HasItsLanes n station
have_lanes n is = each_station n (HasItsLanes n) (λ place m there p lane begins.
    let count = ports_counted n is place m there in
    let within = port_counted n is place m p lane there begins in
    (within.0, rw count within.1))

have_few : (n : NetworkState) → IsNetwork n → (place : ℕ) (station : Station)
    → slice_get (stations_of n) place ≡ Some station → length station.system.ports ≤ MOST_PORTS
have_few n is = each_station n (λ (station : Station). length station.system.ports ≤ MOST_PORTS) (λ place m there.
    let count = ports_counted n is place m there in rw count (is.systems place m there).ports)

pub initial_stage : (n : NetworkState) (parts : WorldParts) → IsNetwork n → IsNet parts.net
    → parts.stations.items ≡ stations_of n → parts.net.directory.clocks ≡ directory_clocks n.systems
    → parts.net.directory.joins ≡ joins_of n.links → parts.net.traffic.systems ≡ length n.systems
    → parts.outbox.items ≡ [] → parts.now ≡ 0 → IsWorldParts parts
initial_stage n parts is net stations clocks joins systems empty now =
    let there : (place : ℕ) (station : Station) → slice_get parts.stations.items place ≡ Some station
    → slice_get (stations_of n) place ≡ Some station =
    λ place station e. ap (λ (all : List Station). slice_get all place) (sym stations) ∙ e in
    record {
      net = net;
      clocks = ap (map clock_at_place) stations ∙ clocks_kept n n.systems ∙ sym clocks;
      systems =
          let count = ap length stations ∙ length-map n.systems (station_of n) in
          omega (arith, count, systems);
      few = λ place station e. have_few n is place station (there place station e);
      ports = λ place station p lane e begins. have_lanes n is place station (there place station e) p lane
          (subst (λ (all : List Join). BeginsAt all (port_id (clock station.system) p) lane) joins begins);
      empty = empty;
      moment = omega (arith, now);
    }

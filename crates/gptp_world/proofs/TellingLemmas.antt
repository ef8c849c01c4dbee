-- The ends of a link are told of a change of it, one after the other.
use Rattle.std.proofs.Common.{◌≡◌, ◌≢◌, ℕ, ◌≤◌, List, [], ◌++◌, Bool, true, false, map, Option, Some, slice_get, slice_index_or, refl, ap, sym, subst, ◌∙◌, inl, inr, arith}
use Rattle.std.proofs.lemmas.Option.{same_Some}
use Rattle.gptp_setup.specs.declared.limits.TheConstants.{MOST_PORTS}
use Rattle.gptp_links.specs.declared.bounds.Bounds.{Bounds}
use Rattle.gptp_links.specs.declared.link.Direction.{Direction}
use Rattle.gptp_links.specs.declared.link.Direction.TheVariants.{FromA, FromB}
use Rattle.gptp_links.specs.Fate.{Draw, Draws}
use Rattle.gptp_links.proofs.DrawLemmas as draws
use Rattle.gptp_system.specs.declared.answer.Answer.{Answer}
use Rattle.gptp_system.specs.Input.{Input, IsTimely}
use Rattle.gptp_system.specs.Steps.{HasPortNumber}
use Rattle.gptp_system.specs.State.{clock}
use Rattle.gptp_vector.specs.declared.port.PortId.{PortId}
use Rattle.gptp_world.specs.declared.net.Net.{Net as Between}
use Rattle.gptp_world.specs.declared.world_parts.WorldParts.{WorldParts}
use Rattle.gptp_model.specs.declared.station.Station.{Station}
use Rattle.gptp_world.specs.declared.telling.End.{End}
use Rattle.gptp_model.specs.Act.{in_state}
use Rattle.gptp_traffic.specs.Traffic.{join_of}
use Rattle.gptp_model.specs.Changing.{CallsIfLive, TellsEnds}
use Rattle.gptp_world.specs.Directory.{direction_end, direction_start, DirectoryState, IsDirectory, IsPlan, Join}
use Rattle.gptp_world.specs.Net.{IsNet}
use Rattle.gptp_model.specs.World.{port_id}
use Rattle.gptp_world.specs.Room.{both, for_call, no_room, Uses}
use Rattle.gptp_world.specs.WorldParts.{clock_at_place, world_of, Called, CallUses, HasRoomToCall, HasRoomToCallBoth, IsPortAt, IsWorldParts, IsTimelyAt}
use Rattle.gptp_world.specs.Telling.{link_input, AreEndsOf, HasRoomAtEnds, IsEndAt, WasTold}
use Rattle.gptp_world.specs.Timing.{AreSetFor}
use Rattle.gptp_model.specs.World.{Channel, Net, WorldState}
use Rattle.gptp_world.proofs.NeedLemmas.{covered, left_of, still_room}
use Rattle.gptp_world.proofs.NetLemmas.{lane_of}
use Rattle.gptp_lists.proofs.MappedLemmas.{mapped, mapped_there}
use Rattle.gptp_lists.proofs.PlaceLemmas.{get-set_other, read}

-- ---- the ends of a link

-- the number of a port at which a lane ends is within the limit
pub small_end : (clocks : List ℕ) (joins : List Join) (link : ℕ) (d : Direction) (join : Join) → IsPlan clocks joins
    → slice_get joins link ≡ Some join → (direction_end d join).port ≤ MOST_PORTS
small_end clocks joins link FromA join plan here = (plan.placed_b link join here).last
small_end clocks joins link FromB join plan here = (plan.placed_a link join here).last

-- two systems stand at the ends
pub ends_apart : (d : DirectoryState) (link : ℕ) (join : Join) (a b : End) → IsDirectory d
    → slice_get d.joins link ≡ Some join → IsEndAt join.a a d → IsEndAt join.b b d → a.place ≢ b.place
ends_apart d link join a b is here at_a at_b = λ same.
    is.plan.apart link join here
    (same_Some join.a.clock join.b.clock (sym at_a.clock ∙ (ap (slice_get d.clocks) same ∙ at_b.clock)))

-- a port is that of a system at one place
one_place : (d : DirectoryState) (port : PortId) (one other : End) → IsDirectory d → IsEndAt port one d
    → IsEndAt port other d → one.place ≡ other.place
one_place d port one other is at_one at_other =
    is.plan.differ one.place other.place port.clock at_one.clock at_other.clock

-- the room that was made is for these ends
room_for : (link : ℕ) (a b : End) (parts : WorldParts) → IsDirectory parts.net.directory
    → AreEndsOf link a b parts.net.directory → HasRoomAtEnds link parts
    → HasRoomToCallBoth a.place b.place parts
room_for link a b parts is ends has =
    let d = parts.net.directory in
    let join : has.ends.join ≡ ends.join = same_Some has.ends.join ends.join (sym has.ends.here ∙ ends.here) in
    let had_a : IsEndAt ends.join.a has.a d = subst (λ (j : Join). IsEndAt j.a has.a d) join has.ends.at_a in
    let had_b : IsEndAt ends.join.b has.b d = subst (λ (j : Join). IsEndAt j.b has.b d) join has.ends.at_b in
    subst (λ p. HasRoomToCallBoth p b.place parts) (one_place d ends.join.a has.a a is had_a ends.at_a)
    (subst (λ p. HasRoomToCallBoth has.a.place p parts) (one_place d ends.join.b has.b b is had_b ends.at_b) has.room)

-- a system at the place of an end is the one that its port names
named : (parts : WorldParts) (port : PortId) (end : End) (station : Station) → IsWorldParts parts
    → IsEndAt port end parts.net.directory → slice_get parts.stations.items end.place ≡ Some station
    → clock station.system ≡ port.clock
named parts port end station is at there =
    let known : slice_get parts.net.directory.clocks end.place ≡ Some (clock station.system) =
    ap (λ cs. slice_get cs end.place) (sym is.clocks)
    ∙ mapped_there clock_at_place parts.stations.items end.place station there in
    same_Some (clock station.system) port.clock (sym known ∙ at.clock)

-- the port of an end is one of its system
end_port : (parts : WorldParts) (link : ℕ) (d : Direction) (join : Join) (end : End) (station : Station)
    → IsWorldParts parts
    → slice_get parts.net.directory.joins link ≡ Some join → IsEndAt (direction_start d join) end parts.net.directory
    → slice_get parts.stations.items end.place ≡ Some station → IsPortAt end.place end.port parts
end_port parts link d join end station is here at there =
    let own = named parts (direction_start d join) end station is at there in
    let begins : direction_start d join ≡ port_id (clock station.system) end.port =
    ap (λ c. port_id c (direction_start d join).port) (sym own) ∙ ap (port_id (clock station.system)) (sym at.number) in
    let range = is.ports end.place station end.port (lane_of link d) there
    (record { join = join; there = here; begins = begins }) in
    record { station = station; here = there; port_of = record { least = range.0; most = range.1 } }

-- while the state of the world is the same, the directory knows the same systems and links
pub same_clocks : (parts stage' : WorldParts) → IsWorldParts parts → IsWorldParts stage'
    → world_of stage' ≡ world_of parts
    → stage'.net.directory.clocks ≡ parts.net.directory.clocks
same_clocks parts stage' is is' world =
    sym is'.clocks ∙ (ap (λ (w : WorldState). map clock_at_place w.stations) world ∙ is.clocks)

pub same_joins : (parts stage' : WorldParts) → IsWorldParts parts → IsWorldParts stage'
    → world_of stage' ≡ world_of parts
    → stage'.net.directory.joins ≡ parts.net.directory.joins
same_joins parts stage' is is' world =
    sym is'.net.joins ∙ (ap (λ (w : WorldState). map join_of w.net.channels) world ∙ is.net.joins)

-- room was made for the ends of a link
pub room_at_ends : (parts stage' : WorldParts) (link : ℕ) (a b : End) → IsWorldParts parts → IsWorldParts stage'
    → world_of stage' ≡ world_of parts
    → AreEndsOf link a b parts.net.directory → HasRoomToCallBoth a.place b.place stage' → HasRoomAtEnds link stage'
room_at_ends parts stage' link a b is is' world ends room =
    let clocks = same_clocks parts stage' is is' world in
    let joins = same_joins parts stage' is is' world in
    let at_a = ends.at_a in let at_b = ends.at_b in
    record {
      a = a;
      b = b;
      ends = record {
        join = ends.join;
        here = rw joins ends.here;
        at_a = record { clock = rw clocks at_a.clock; number = at_a.number };
        at_b = record { clock = rw clocks at_b.clock; number = at_b.number };
        apart = ends.apart;
      };
      room = room;
    }

-- ---- the link changes

-- what is between the systems becomes another of the same systems and links
pub net_becomes : (parts : WorldParts) (net : Between) → IsWorldParts parts → IsNet net
    → net.directory ≡ parts.net.directory
    → net.traffic.systems ≡ parts.net.traffic.systems → IsWorldParts (record parts { net = net })
net_becomes parts net is after directory systems = record {
  net = after;
  clocks = rw directory is.clocks;
  systems = rw systems is.systems;
  few = is.few;
  ports = rw directory is.ports;
  empty = is.empty;
  moment = is.moment;
}

-- so it is where it has no less room
pub net_changes : (parts : WorldParts) (net : Between) → IsWorldParts parts → IsNet net → Uses no_room parts.net net
    → IsWorldParts (record parts { net = net })
net_changes parts net is after uses = net_becomes parts net is after uses.directory uses.systems

-- both ends can be told: so it is once the link has changed
pub record CanTell (a b : End) (parts : WorldParts) : Type 0 where
  pub port_a : IsPortAt a.place a.port parts
  pub port_b : IsPortAt b.place b.port parts
  pub room : HasRoomToCallBoth a.place b.place parts
  pub apart : a.place ≢ b.place

pub can_tell : (parts : WorldParts) (net : Between) (link : ℕ) (a b : End) → IsWorldParts parts
    → IsDirectory parts.net.directory
    → AreEndsOf link a b parts.net.directory → HasRoomAtEnds link parts → Uses no_room parts.net net
    → CanTell a b (record parts { net = net })
can_tell parts net link a b is directory ends has uses =
    let room = room_for link a b parts directory ends has in
    let one = end_port parts link FromA ends.join a room.station_a is ends.here ends.at_a room.here_a in
    let other = end_port parts link FromB ends.join b room.station_b is ends.here ends.at_b room.here_b in
    record {
      port_a = record { station = one.station; here = one.here; port_of = one.port_of };
      port_b = record { station = other.station; here = other.here; port_of = other.port_of };
      room = record {
        station_a = room.station_a;
        station_b = room.station_b;
        here_a = room.here_a;
        here_b = room.here_b;
        room = still_room (both (for_call room.station_a.system) (for_call room.station_b.system)) parts.net net uses
            room.room;
      };
      apart = ends.apart;
    }

-- ---- one end

-- it can be told that its link comes up, or goes down
pub link_timely : (up : Bool) (place port : ℕ) (parts : WorldParts) → IsPortAt place port parts
    → IsTimelyAt (link_input up port) place parts
link_timely up place port parts own station here = by up
  where
    port_of : HasPortNumber station.system port
    port_of =
        subst (λ (x : Station). HasPortNumber x.system port) (same_Some own.station station (sym own.here ∙ here))
        own.port_of

    by : (up : Bool) → IsTimely station.system parts.now (link_input up port)
    by true = port_of
    by false = port_of

pub link_set : (up : Bool) (place port : ℕ) (parts : WorldParts) → AreSetFor (link_input up port) place parts
link_set true place port parts station here timer off = absurd cc
link_set false place port parts station here timer off = absurd cc

pub one_told : {F : Type 0} (answers : Bounds → ℕ → F → Option ℕ → F → Type 0) (place : ℕ) (input : Input)
    (answer : Answer) (fate fate_after : F) (parts stage' : WorldParts)
    → Called answers place input answer fate fate_after parts stage'
    → WasTold answers place input fate fate_after parts stage'
one_told answers place input answer fate fate_after parts stage' called =
    record { draws = called.draws; drawn = called.drawn; calls = inl (answer, called.calls) }

-- a system that has failed isn't told
pub not_told : {F : Type 0} (answers : Bounds → ℕ → F → Option ℕ → F → Type 0) (place : ℕ) (input : Input) (fate : F)
    (parts : WorldParts) (one station : Station) → slice_get parts.stations.items place ≡ Some station
    → one ≡ slice_index_or parts.stations.items place one → one.live ≡ false
    → WasTold answers place input fate fate parts parts
not_told answers place input fate parts one station here value failed =
    let is : one ≡ station = value ∙ read parts.stations.items place station one here in
    record {
      draws = [];
      drawn = refl;
      calls = inr (record { station = station; here = here; failed = rw (← is) failed }, refl, refl);
    }

-- ---- the first end is told, and then the second

-- there is room for the call at the first, and then for that at the second
pub room_first : (first second : ℕ) (parts : WorldParts) → HasRoomToCallBoth first second parts
    → HasRoomToCall first parts
room_first first second parts has = record {
  station = has.station_a;
  here = has.here_a;
  room = covered (both (for_call has.station_a.system) (for_call has.station_b.system))
      (for_call has.station_a.system) parts.net
      (record { entries = omega arith; buffers = omega arith }) has.room;
}

room_second : (first second : ℕ) (parts stage' : WorldParts)
    → slice_get stage'.stations.items second ≡ slice_get parts.stations.items second
    → CallUses first parts stage'.net → HasRoomToCallBoth first second parts → HasRoomToCall second stage'
room_second first second parts stage' same uses has =
    let near = for_call has.station_a.system in let far = for_call has.station_b.system in
    record {
      station = has.station_b;
      here = same ∙ has.here_b;
      room = left_of near far parts.net stage'.net (uses has.station_a has.here_a) has.room;
    }

-- no other system changes
elsewhere : {F : Type 0} (answers : Bounds → ℕ → F → Option ℕ → F → Type 0) (place other : ℕ) (input : Input)
    (fate fate_after : F) (parts stage' : WorldParts) → WasTold answers place input fate fate_after parts stage'
    → other ≢ place
    → slice_get stage'.stations.items other ≡ slice_get parts.stations.items other
elsewhere answers place other input fate fate_after parts stage' told apart = by told.calls
  where
    by : CallsIfLive place input (world_of parts) told.draws (world_of stage')
        → slice_get stage'.stations.items other ≡ slice_get parts.stations.items other
    by (inl (answer, calls)) =
        ap (λ (w : WorldState). slice_get w.stations other) calls.is
        ∙ get-set_other parts.stations.items place other (in_state calls.after calls.station) apart
    by (inr (failed, none, same)) = ap (λ (w : WorldState). slice_get w.stations other) same

-- the second can still be told
pub record CanTellSecond (b : End) (parts : WorldParts) : Type 0 where
  pub port : IsPortAt b.place b.port parts
  pub room : HasRoomToCall b.place parts

pub can_tell_second : {F : Type 0} (answers : Bounds → ℕ → F → Option ℕ → F → Type 0) (a b : End) (input : Input)
    (fate fate_after : F) (parts stage' : WorldParts) → CanTell a b parts
    → WasTold answers a.place input fate fate_after parts stage'
    → CallUses a.place parts stage'.net → CanTellSecond b stage'
can_tell_second answers a b input fate fate_after parts stage' can told uses =
    let same = elsewhere answers a.place b.place input fate fate_after parts stage' told (λ e. can.apart (sym e)) in
    let own = can.port_b in
    record {
      port = record { station = own.station; here = same ∙ own.here; port_of = own.port_of };
      room = room_second a.place b.place parts stage' same uses can.room;
    }

-- ---- both were told

-- a link is among those that the directory knows
known_link : (net : Between) (link : ℕ) (join : Join) → IsNet net → slice_get net.directory.joins link ≡ Some join
    → (channel : Channel) × (slice_get net.traffic.net.channels link ≡ Some channel) × (join_of channel ≡ join)
known_link net link join is here =
    mapped join_of net.traffic.net.channels link join (ap (λ js. slice_get js link) is.joins ∙ here)

-- the link changed in this way, and both its ends were told
pub record BothTold {F : Type 0} (answers : Bounds → ℕ → F → Option ℕ → F → Type 0) (input : ℕ → Input)
    (changed : Channel → Net) (link : ℕ) (fate fate_after : F) (parts stage' : WorldParts) : Type 0 where
  pub channel : Channel
  pub here : slice_get (world_of parts).net.channels link ≡ Some channel
  pub draws : List Draw
  pub drawn : Draws answers fate draws fate_after
  pub tells : TellsEnds input channel (record (world_of parts) { net = changed channel }) draws (world_of stage')

pub both_told : {F : Type 0} (answers : Bounds → ℕ → F → Option ℕ → F → Type 0) (input : ℕ → Input)
    (changed : Channel → Net) (link : ℕ) (a b : End) (first second third : F) (parts : WorldParts) (net : Between)
    (between after : WorldParts) → IsWorldParts parts
    → AreEndsOf link a b parts.net.directory → CanTell a b (record parts { net = net })
    → ((channel : Channel) → slice_get parts.net.traffic.net.channels link ≡ Some channel
    → (world_of (record parts { net = net })).net ≡ changed channel)
    → WasTold answers a.place (input a.port) first second (record parts { net = net }) between
    → WasTold answers b.place (input b.port) second third between after
    → BothTold answers input changed link first third parts after
both_told answers input changed link a b first second third parts net between after is ends can changes told_a told_b =
    let made = known_link parts.net link ends.join is.net ends.here in
    let channel = made.0 in
    let at_a : IsEndAt channel.a a parts.net.directory =
    subst (λ (j : Join). IsEndAt j.a a parts.net.directory) (sym made.2) ends.at_a in
    let at_b : IsEndAt channel.b b parts.net.directory =
    subst (λ (j : Join). IsEndAt j.b b parts.net.directory) (sym made.2) ends.at_b in
    let room = can.room in
    let start = world_of (record parts { net = net }) in let all = told_a.draws ++ told_b.draws in
    let tells : TellsEnds input channel start all (world_of after) =
    record {
      place_a = a.place;
      place_b = b.place;
      station_a = room.station_a;
      station_b = room.station_b;
      first = told_a.draws;
      second = told_b.draws;
      between = world_of between;
      is_a = record { here = room.here_a; named = named parts channel.a a room.station_a is at_a room.here_a };
      is_b = record { here = room.here_b; named = named parts channel.b b room.station_b is at_b room.here_b };
      draws_are = refl;
      at_a = subst (λ p. CallsIfLive a.place (input p) start told_a.draws (world_of between)) at_a.number told_a.calls;
      at_b = subst (λ p. CallsIfLive b.place (input p) (world_of between) told_b.draws (world_of after)) at_b.number
          told_b.calls;
    } in
    record {
      channel = channel;
      here = made.1;
      draws = all;
      drawn = draws.draws-append answers first second third told_a.draws told_b.draws told_a.drawn told_b.drawn;
      tells = subst (λ n. TellsEnds input channel (record (world_of parts) { net = n }) all (world_of after))
          (changes channel made.1) tells;
    }

-- What making room leaves as it was.
use Rattle.std.proofs.Common.{◌≡◌, ℕ, ◌+◌, ◌*◌, ◌≤◌, length, map, Some, slice_get, ap, ◌∙◌, arith}
use Rattle.std.specs.Prelude.{Result, Ok, Err, OnOk}
use Rattle.gptp_model.specs.declared.station.Station.{Station}
use Rattle.gptp_model.specs.World.{Net}
use Rattle.gptp_traffic.specs.Traffic.{join_of}
use Rattle.gptp_world.specs.declared.net.Net.{Net as Between}
use Rattle.gptp_world.specs.declared.world_parts.WorldParts.{WorldParts}
use Rattle.gptp_world.specs.Net.{IsNet}
use Rattle.gptp_world.specs.Room.{both, for_call, for_timers, repeated, Need, OnlyRoom}
use Rattle.gptp_world.specs.WorldParts.{HasRoomToCall, HasRoomToCallBoth, IsWorldParts}
use Rattle.gptp_world.specs.Starting.{for_start, HasRoomToStart}
use Rattle.gptp_world.proofs.NeedLemmas.{covered, repeated-covered, Covers}

pub on_ok : {X E : Type 0} (r : Result X E) (P Q : Type 0) → (P → Q) → OnOk r P → OnOk r Q
on_ok (Ok x) P Q f p = f p
on_ok (Err e) P Q f p = p

pub both_ok : {X E : Type 0} (r : Result X E) (P Q R : Type 0) → OnOk r P → OnOk r Q → (P → Q → R) → OnOk r R
both_ok (Ok x) P Q R p q f = f p q
both_ok (Err e) P Q R p q f = p

pub net_stays : (net net' : Between) → OnlyRoom net net' → IsNet net → IsNet net'
net_stays net net' only is =
    let directory = only.directory in
    record { joins = ap (λ (n : Net). map join_of n.channels) only.same ∙ rw directory is.joins }

pub stage_stays : (parts stage' : WorldParts) → stage'.stations ≡ parts.stations → stage'.now ≡ parts.now
    → stage'.outbox.items ≡ parts.outbox.items
    → OnlyRoom parts.net stage'.net → IsWorldParts parts → IsWorldParts stage'
stage_stays parts stage' stations now outbox only is =
    let directory = only.directory in let systems = only.systems in
    record {
      net = net_stays parts.net stage'.net only is.net;
      clocks = rw (stations, directory) is.clocks;
      systems = rw (stations, systems) is.systems;
      few = rw stations is.few;
      ports = rw (stations, directory) is.ports;
      empty = outbox ∙ is.empty;
      moment = rw now is.moment;
    }

-- there is room for a call of a system
pub room_to_call : (parts : WorldParts) (place : ℕ) (station : Station)
    → slice_get parts.stations.items place ≡ Some station
    → 6 * length station.system.ports + 3 ≤ parts.net.traffic.room
    → 2 * length station.system.ports ≤ parts.net.buffers.ready → HasRoomToCall place parts
room_to_call parts place station here entries buffers =
    record { station = station; here = here; room = record { entries = entries; buffers = buffers } }

-- and for a start
pub room_to_start : (parts : WorldParts) (place : ℕ) (station : Station)
    → slice_get parts.stations.items place ≡ Some station
    → 4 * length station.system.ports + 3 + length station.system.ports * (6 * length station.system.ports + 3)
    ≤ parts.net.traffic.room
    → length station.system.ports * (2 * length station.system.ports) ≤ parts.net.buffers.ready
    → HasRoomToStart place parts
room_to_start parts place station here entries buffers =
    let count = length station.system.ports in let timers = 4 * count + 3 in
    let calls : Need = record { entries = count * (6 * count + 3); buffers = count * (2 * count) } in
    let less : Covers calls (repeated count (for_call station.system)) =
    repeated-covered count (for_call station.system) calls (omega arith) (omega arith) in
    record {
      station = station;
      here = here;
      room = covered (both (for_timers timers) calls) (for_start station.system) parts.net
          (record { entries = omega (arith, less.entries); buffers = omega (arith, less.buffers) })
          (record { entries = entries; buffers = omega (arith, buffers) });
    }

-- and for one call of each of two
pub room_to_call_both : (parts : WorldParts) (first second : ℕ) (near far : Station)
    → slice_get parts.stations.items first ≡ Some near → slice_get parts.stations.items second ≡ Some far
    → 6 * (length near.system.ports + length far.system.ports) + 6 ≤ parts.net.traffic.room
    → 2 * (length near.system.ports + length far.system.ports) ≤ parts.net.buffers.ready
    → HasRoomToCallBoth first second parts
room_to_call_both parts first second near far here there entries buffers = record {
  station_a = near;
  station_b = far;
  here_a = here;
  here_b = there;
  room = record { entries = omega (arith, entries); buffers = omega (arith, buffers) };
}

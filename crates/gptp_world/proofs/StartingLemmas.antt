-- How systems start, fail, and get another priority1.
use Rattle.std.proofs.Common.{◌≡◌, ◌+◌, ◌*◌, ℕ, true, false, [], length, map, Option, Some, slice_get, refl, ap, subst, sym, ◌∙◌, inl, inr, arith}
use Rattle.std.specs.List.{filter, range_with_len}
use Rattle.std.proofs.lemmas.Option.{same_Some, slice_get_within}
use Rattle.gptp_links.specs.declared.bounds.Bounds.{Bounds}
use Rattle.gptp_roles.specs.Selection.{clock_of}
use Rattle.gptp_system.specs.declared.answer.Answer.{Answer}
use Rattle.gptp_system.specs.Input.{PortUp, Priority}
use Rattle.gptp_system.specs.State.{clock}
use Rattle.gptp_system.proofs.StartLemmas.{length-new_ports}
use Rattle.gptp_world.specs.declared.net.Net.{Net as Between}
use Rattle.gptp_world.specs.declared.world_parts.WorldParts.{WorldParts}
use Rattle.gptp_model.specs.declared.station.Station.{Station}
use Rattle.gptp_model.specs.Changing.{failed, fresh, is_up_at, with_setup, with_station, CallsAll}
use Rattle.gptp_world.specs.Net.{OnlyEntries}
use Rattle.gptp_world.specs.Room.{both, for_call, for_timers, repeated, WorldHasRoom, Need}
use Rattle.gptp_model.specs.Sound.{IsItsSetup}
use Rattle.gptp_world.specs.WorldParts.{world_of, Called, HasRoomToCall, IsWorldParts}
use Rattle.gptp_world.specs.Starting.{for_all_timers, for_start, CameUp, CanSetTimers, CanStart, HasRoomForPorts, HasRoomToStart, HasSetTimers, Prioritized, StandsReplaced, Started}
use Rattle.gptp_model.specs.World.{WorldState}
use Rattle.gptp_model.proofs.AgreeLemmas.{replaced}
use Rattle.gptp_world.proofs.NeedLemmas.{covered, left_of, uses_timers}
use Rattle.gptp_world.proofs.ComingUpLemmas.{same_call}
use Rattle.gptp_lists.proofs.PlaceLemmas.{get-set_same}
use Rattle.gptp_world.proofs.WorldPartsLemmas.{becomes, net_kept}

-- ---- one stands for the system at a place

-- it stands there
pub stands_there : (parts left : WorldParts) (place : ℕ) (old new : Station)
    → slice_get parts.stations.items place ≡ Some old
    → StandsReplaced place new parts left → slice_get left.stations.items place ≡ Some new
stands_there parts left place old new here by =
    ap (λ xs. slice_get xs place) by.stations ∙ get-set_same parts.stations.items place old new here

-- with the same clock and as many ports it keeps the stage
pub replaced_stage : (parts left : WorldParts) (place : ℕ) (old new : Station) → IsWorldParts parts
    → slice_get parts.stations.items place ≡ Some old
    → length new.system.ports ≡ length old.system.ports → clock new.system ≡ clock old.system
    → StandsReplaced place new parts left
    → IsWorldParts left
replaced_stage parts left place old new is here ports clocks by =
    let net = by.net in
    becomes parts left place old new is here ports clocks by.stations (rw net is.net) (rw net refl) (rw net refl) by.now
    (ap (λ o. o.items) by.outbox ∙ is.empty)

-- ---- all timers of a system

-- the timers of a system of the stage can be set
pub can_set_timers : (parts : WorldParts) (place : ℕ) (station : Station) → IsWorldParts parts
    → slice_get parts.stations.items place ≡ Some station
    → (station.live ≡ true → WorldHasRoom (for_all_timers station.system) parts.net) → CanSetTimers place parts
can_set_timers parts place station is here room =
    let within = slice_get_within parts.stations.items place station here in let places = is.systems in
    record {
      station = station;
      here = here;
      known = omega arith;
      few = is.few place station here;
      room = λ live. (room live).entries;
    }

pub timers_stage : (parts stage' : WorldParts) (place : ℕ) → IsWorldParts parts → HasSetTimers place parts stage'
    → IsWorldParts stage'
timers_stage parts stage' place is set =
    let stations = set.stations in let directory = set.only.directory in let systems = set.only.systems in
    let now = set.now in
    let outbox = set.outbox in
    record {
      net = net_kept (4 * length set.station.system.ports + 3) parts.net stage'.net set.only is.net;
      clocks = rw (stations, directory) is.clocks;
      systems = rw (stations, systems) is.systems;
      few = rw stations is.few;
      ports = rw (stations, directory) is.ports;
      empty = rw outbox is.empty;
      moment = rw now is.moment;
    }

-- the world in which one stands for a system, and its timers are set
pub replaced_world : (parts left stage' : WorldParts) (place : ℕ) (old new : Station)
    → slice_get parts.stations.items place ≡ Some old
    → StandsReplaced place new parts left → HasSetTimers place left stage'
    → world_of stage' ≡ replaced place new (world_of parts)
replaced_world parts left stage' place old new here by set =
    let there = stands_there parts left place old new here by in
    let one : set.station ≡ new = same_Some set.station new (sym set.here ∙ there) in
    let timers = set.timers in let stations = set.stations in let now = set.now in let last = set.last_change in
    let list = by.stations in let net = by.net in let moment = by.now in let change = by.last_change in
    rw (timers, stations, now, last, list, net, moment, change, one) refl

-- ---- a start

-- a new system has the clock that its setup says, and as many ports
pub fresh_ports : (station : Station) (now : ℕ) → IsItsSetup station
    → length (fresh now station).system.ports ≡ length station.system.ports
fresh_ports station now is =
    length-new_ports (clock_of station.setup.identity) station.setup.params 1 station.setup.intervals.items
    ∙ is.intervals.many ∙ sym is.ports

-- the needs of a new system are those of the old one
pub fresh_need : (station : Station) (now : ℕ) → IsItsSetup station
    → for_start (fresh now station).system ≡ for_start station.system
fresh_need station now is =
    let ports = fresh_ports station now is in
    let call = same_call station.system (fresh now station).system ports in
    ap (λ n. both (for_timers (4 * n + 3)) (repeated n (for_call (fresh now station).system))) ports
    ∙ ap (λ (need : Need). both (for_all_timers station.system) (repeated (length station.system.ports) need)) call

-- the stage with the new system
pub renewed_stage : (parts left : WorldParts) (place : ℕ) (can : CanStart place parts) → IsWorldParts parts
    → StandsReplaced place (fresh parts.now can.station) parts left → IsWorldParts left
renewed_stage parts left place can is by =
    replaced_stage parts left place can.station (fresh parts.now can.station) is can.here
    (fresh_ports can.station parts.now can.setup) can.setup.named by

pub renewed_room : (parts left : WorldParts) (place : ℕ) (can : CanStart place parts) → HasRoomToStart place parts
    → StandsReplaced place (fresh parts.now can.station) parts left
    → WorldHasRoom (for_start (fresh parts.now can.station).system) left.net
renewed_room parts left place can has by =
    let one : has.station ≡ can.station = same_Some has.station can.station (sym has.here ∙ can.here) in
    let room : WorldHasRoom (for_start can.station.system) left.net =
    subst (λ (n : Between). WorldHasRoom (for_start can.station.system) n) (sym by.net)
    (subst (λ (s : Station). WorldHasRoom (for_start s.system) parts.net) one has.room) in
    subst (λ (need : Need). WorldHasRoom need left.net) (sym (fresh_need can.station parts.now can.setup)) room

-- its timers can be set
pub renewed_timers : (parts left : WorldParts) (place : ℕ) (can : CanStart place parts) → IsWorldParts parts
    → HasRoomToStart place parts
    → StandsReplaced place (fresh parts.now can.station) parts left → CanSetTimers place left
renewed_timers parts left place can is has by =
    let new : Station = fresh parts.now can.station in
    can_set_timers left place new (renewed_stage parts left place can is by)
    (stands_there parts left place can.station new can.here by)
    (λ live. covered (for_start new.system) (for_all_timers new.system) left.net
    (record { entries = omega arith; buffers = omega arith })
    (renewed_room parts left place can has by))

-- once they are set, there is room for its ports
pub ports_room : (place : ℕ) (parts stage' : WorldParts) (new : Station)
    → slice_get parts.stations.items place ≡ Some new
    → WorldHasRoom (for_start new.system) parts.net → HasSetTimers place parts stage' → HasRoomForPorts place stage'
ports_room place parts stage' new here has set =
    let one : set.station ≡ new = same_Some set.station new (sym set.here ∙ here) in let stations = set.stations in
    let only : OnlyEntries (4 * length new.system.ports + 3) parts.net stage'.net =
    subst (λ (s : Station). OnlyEntries (4 * length s.system.ports + 3) parts.net stage'.net) one set.only in
    record {
      station = new;
      here = rw stations here;
      room = left_of (for_all_timers new.system) (repeated (length new.system.ports) (for_call new.system)) parts.net
          stage'.net
          (uses_timers (4 * length new.system.ports + 3) parts.net stage'.net only) has;
    }

-- a start is a new system, and then its ports come up
pub started : {F : Type 0} (answers : Bounds → ℕ → F → Option ℕ → F → Type 0) (fate fate_after : F)
    (parts left set stage' : WorldParts)
    (place : ℕ) (station : Station) → slice_get parts.stations.items place ≡ Some station
    → StandsReplaced place (fresh parts.now station) parts left → HasSetTimers place left set
    → CameUp answers place (range_with_len 1 (length (fresh parts.now station).system.ports)) fate fate_after set stage'
    → Started answers place fate fate_after parts stage'
started answers fate fate_after parts left set stage' place station here by timers came =
    let new : Station = fresh parts.now station in let ports = range_with_len 1 (length new.system.ports) in
    let world : world_of set ≡ replaced place new (world_of parts) = replaced_world parts left set place station new
    here by timers in
    let there : slice_get set.stations.items place ≡ Some new =
    ap (λ xs. slice_get xs.items place) timers.stations ∙ stands_there parts left place station new here by in
    let one : came.station ≡ new = same_Some came.station new (sym came.here ∙ there) in
    let calls : CallsAll place
    (map PortUp (filter (λ p. is_up_at (world_of set).net.channels (clock new.system) p) ports)) (world_of set)
    came.draws (world_of stage') =
    subst (λ (s : Station). CallsAll place
    (map PortUp (filter (λ p. is_up_at (world_of set).net.channels (clock s.system) p) ports))
    (world_of set) came.draws (world_of stage')) one came.calls in
    record {
      draws = came.draws;
      drawn = came.drawn;
      starts = record {
        station = station;
        here = here;
        calls = subst (λ (w : WorldState). CallsAll place
            (map PortUp (filter (λ p. is_up_at w.net.channels (clock new.system) p) ports)) w came.draws
            (world_of stage')) world calls;
      };
    }

-- ---- another priority1

-- a live system with another priority1 can be called
pub prepared_room : (parts left : WorldParts) (place value : ℕ) (has : HasRoomToCall place parts)
    → StandsReplaced place (with_setup value has.station) parts left → HasRoomToCall place left
prepared_room parts left place value has by =
    let net = by.net in
    record {
      station = with_setup value has.station;
      here = stands_there parts left place has.station (with_setup value has.station) has.here by;
      room = rw net has.room;
    }

-- the world in which it stands
pub prepared_world : (parts left : WorldParts) (place : ℕ) (new : Station) → StandsReplaced place new parts left
    → world_of left ≡ with_station place new (world_of parts)
prepared_world parts left place new by =
    let list = by.stations in let net = by.net in let now = by.now in let last = by.last_change in
    rw (list, net, now, last) refl

pub told : {F : Type 0} (answers : Bounds → ℕ → F → Option ℕ → F → Type 0) (fate fate_after : F)
    (parts left stage' : WorldParts)
    (place value : ℕ) (station : Station) → slice_get parts.stations.items place ≡ Some station
    → StandsReplaced place (with_setup value station) parts left → (answer : Answer)
    → Called answers place (Priority value) answer fate fate_after left stage'
    → Prioritized answers place value fate fate_after parts stage'
told answers fate fate_after parts left stage' place value station here by answer called =
    let world = prepared_world parts left place (with_setup value station) by in
    record {
      station = station;
      here = here;
      draws = called.draws;
      drawn = called.drawn;
      calls = inl (answer, rw (← world) called.calls);
    }

-- one that has failed isn't told
pub untold : {F : Type 0} (answers : Bounds → ℕ → F → Option ℕ → F → Type 0) (fate : F) (parts left : WorldParts)
    (place value : ℕ)
    (station : Station) → slice_get parts.stations.items place ≡ Some station
    → StandsReplaced place (with_setup value station) parts left
    → station.live ≡ false → Prioritized answers place value fate fate parts left
untold answers fate parts left place value station here by failed = record {
  station = station;
  here = here;
  draws = [];
  drawn = refl;
  calls = inr (
    record {
      station = with_setup value station;
      here = get-set_same parts.stations.items place station (with_setup value station) here;
      failed = failed;
    },
    refl,
    prepared_world parts left place (with_setup value station) by,
  );
}

-- What an act is about is the same at a later time.
use Rattle.std.proofs.Common.{ℕ}
use Rattle.gptp_setup.specs.Intervals.{IsMoment}
use Rattle.gptp_world.specs.declared.act_target.ActTarget.{ActTarget}
use Rattle.gptp_world.specs.declared.act_target.ActTarget.TheVariants as aims
use Rattle.gptp_scenario.specs.declared.change.Act.{Act}
use Rattle.gptp_scenario.specs.declared.change.Act.TheVariants.{Deliver, Expire, Change as Changing}
use Rattle.gptp_scenario.specs.declared.change.Change.{Change}
use Rattle.gptp_scenario.specs.declared.change.Change.TheVariants as changes
use Rattle.gptp_world.specs.declared.world_parts.WorldParts.{WorldParts}
use Rattle.gptp_model.specs.Acts.{at}
use Rattle.gptp_world.specs.ActTarget.{IsTargetOf, IsTargetOfChange}
use Rattle.gptp_world.specs.Performing.{HasRoomForTarget}
use Rattle.gptp_world.specs.WorldParts.{HasRoomToCall, IsWorldParts}
use Rattle.gptp_world.specs.Starting.{HasRoomToStart}
use Rattle.gptp_world.specs.Telling.{HasRoomAtEnds}
use Rattle.gptp_model.specs.World.{WorldState}

change_later : (c : Change) (w : WorldState) (time : ℕ) (target : ActTarget) → IsTargetOfChange c w target
    → IsTargetOfChange c (at time w) target
change_later (changes.LinkDown number port) w time (aims.Arrival lane) is = is
change_later (changes.LinkDown number port) w time (aims.Timer place set) is = is
change_later (changes.LinkDown number port) w time (aims.LinkDown link) is =
    record { channel = is.channel; is = record { here = is.is.here; joined = is.is.joined } }
change_later (changes.LinkDown number port) w time (aims.LinkUp link) is = is
change_later (changes.LinkDown number port) w time (aims.LinkSet link bounds) is = is
change_later (changes.LinkDown number port) w time (aims.Fail place) is = is
change_later (changes.LinkDown number port) w time (aims.Recover place) is = is
change_later (changes.LinkDown number port) w time (aims.Priority1 place set) is = is
change_later (changes.LinkDown number port) w time (aims.Inject lane) is = is
change_later (changes.LinkUp number port) w time (aims.Arrival lane) is = is
change_later (changes.LinkUp number port) w time (aims.Timer place set) is = is
change_later (changes.LinkUp number port) w time (aims.LinkDown link) is = is
change_later (changes.LinkUp number port) w time (aims.LinkUp link) is =
    record { channel = is.channel; is = record { here = is.is.here; joined = is.is.joined } }
change_later (changes.LinkUp number port) w time (aims.LinkSet link bounds) is = is
change_later (changes.LinkUp number port) w time (aims.Fail place) is = is
change_later (changes.LinkUp number port) w time (aims.Recover place) is = is
change_later (changes.LinkUp number port) w time (aims.Priority1 place set) is = is
change_later (changes.LinkUp number port) w time (aims.Inject lane) is = is
change_later (changes.LinkSet number port min max loss) w time (aims.Arrival lane) is = is
change_later (changes.LinkSet number port min max loss) w time (aims.Timer place set) is = is
change_later (changes.LinkSet number port min max loss) w time (aims.LinkDown link) is = is
change_later (changes.LinkSet number port min max loss) w time (aims.LinkUp link) is = is
change_later (changes.LinkSet number port min max loss) w time (aims.LinkSet link bounds) is =
    (record { channel = is.0.channel; is = record { here = is.0.is.here; joined = is.0.is.joined } }, is.1)
change_later (changes.LinkSet number port min max loss) w time (aims.Fail place) is = is
change_later (changes.LinkSet number port min max loss) w time (aims.Recover place) is = is
change_later (changes.LinkSet number port min max loss) w time (aims.Priority1 place set) is = is
change_later (changes.LinkSet number port min max loss) w time (aims.Inject lane) is = is
change_later (changes.Fail number) w time (aims.Arrival lane) is = is
change_later (changes.Fail number) w time (aims.Timer place set) is = is
change_later (changes.Fail number) w time (aims.LinkDown link) is = is
change_later (changes.Fail number) w time (aims.LinkUp link) is = is
change_later (changes.Fail number) w time (aims.LinkSet link bounds) is = is
change_later (changes.Fail number) w time (aims.Fail place) is =
    record { station = is.station; is = record { here = is.is.here; named = is.is.named } }
change_later (changes.Fail number) w time (aims.Recover place) is = is
change_later (changes.Fail number) w time (aims.Priority1 place set) is = is
change_later (changes.Fail number) w time (aims.Inject lane) is = is
change_later (changes.Recover number) w time (aims.Arrival lane) is = is
change_later (changes.Recover number) w time (aims.Timer place set) is = is
change_later (changes.Recover number) w time (aims.LinkDown link) is = is
change_later (changes.Recover number) w time (aims.LinkUp link) is = is
change_later (changes.Recover number) w time (aims.LinkSet link bounds) is = is
change_later (changes.Recover number) w time (aims.Fail place) is = is
change_later (changes.Recover number) w time (aims.Recover place) is =
    record { station = is.station; is = record { here = is.is.here; named = is.is.named } }
change_later (changes.Recover number) w time (aims.Priority1 place set) is = is
change_later (changes.Recover number) w time (aims.Inject lane) is = is
change_later (changes.Priority1 number value) w time (aims.Arrival lane) is = is
change_later (changes.Priority1 number value) w time (aims.Timer place set) is = is
change_later (changes.Priority1 number value) w time (aims.LinkDown link) is = is
change_later (changes.Priority1 number value) w time (aims.LinkUp link) is = is
change_later (changes.Priority1 number value) w time (aims.LinkSet link bounds) is = is
change_later (changes.Priority1 number value) w time (aims.Fail place) is = is
change_later (changes.Priority1 number value) w time (aims.Recover place) is = is
change_later (changes.Priority1 number value) w time (aims.Priority1 place set) is =
    (record { station = is.0.station; is = record { here = is.0.is.here; named = is.0.is.named } }, is.1)
change_later (changes.Priority1 number value) w time (aims.Inject lane) is = is
change_later (changes.Inject number port octets) w time (aims.Arrival lane) is = is
change_later (changes.Inject number port octets) w time (aims.Timer place set) is = is
change_later (changes.Inject number port octets) w time (aims.LinkDown link) is = is
change_later (changes.Inject number port octets) w time (aims.LinkUp link) is = is
change_later (changes.Inject number port octets) w time (aims.LinkSet link bounds) is = is
change_later (changes.Inject number port octets) w time (aims.Fail place) is = is
change_later (changes.Inject number port octets) w time (aims.Recover place) is = is
change_later (changes.Inject number port octets) w time (aims.Priority1 place set) is = is
change_later (changes.Inject number port octets) w time (aims.Inject lane) is =
    record { channel = is.channel; here = is.here; begins = is.begins }

pub aim_later : (act : Act) (w : WorldState) (time : ℕ) (target : ActTarget) → IsTargetOf act w target
    → IsTargetOf act (at time w) target
aim_later (Deliver on direction) w time (aims.Arrival lane) is = is
aim_later (Deliver on direction) w time (aims.Timer place set) is = is
aim_later (Deliver on direction) w time (aims.LinkDown link) is = is
aim_later (Deliver on direction) w time (aims.LinkUp link) is = is
aim_later (Deliver on direction) w time (aims.LinkSet link bounds) is = is
aim_later (Deliver on direction) w time (aims.Fail place) is = is
aim_later (Deliver on direction) w time (aims.Recover place) is = is
aim_later (Deliver on direction) w time (aims.Priority1 place set) is = is
aim_later (Deliver on direction) w time (aims.Inject lane) is = is
aim_later (Expire number timer) w time (aims.Arrival lane) is = is
aim_later (Expire number timer) w time (aims.Timer place set) is = (
  record {
    station = is.0.station;
    is = record { here = is.0.is.here; named = is.0.is.named };
    timer_of = is.0.timer_of;
  },
  is.1,
)
aim_later (Expire number timer) w time (aims.LinkDown link) is = is
aim_later (Expire number timer) w time (aims.LinkUp link) is = is
aim_later (Expire number timer) w time (aims.LinkSet link bounds) is = is
aim_later (Expire number timer) w time (aims.Fail place) is = is
aim_later (Expire number timer) w time (aims.Recover place) is = is
aim_later (Expire number timer) w time (aims.Priority1 place set) is = is
aim_later (Expire number timer) w time (aims.Inject lane) is = is
aim_later (Changing c) w time target is = change_later c w time target is

-- time that passes takes no room
abbrev pub at_time : ℕ → WorldParts → WorldParts
at_time time parts = record parts { now = time }

room_at : (place : ℕ) (parts : WorldParts) (time : ℕ) → HasRoomToCall place parts
    → HasRoomToCall place (at_time time parts)
room_at place parts time has = record { station = has.station; here = has.here; room = has.room }

ends_at : (link : ℕ) (parts : WorldParts) (time : ℕ) → HasRoomAtEnds link parts
    → HasRoomAtEnds link (at_time time parts)
ends_at link parts time has = record {
  a = has.a;
  b = has.b;
  ends = has.ends;
  room = record {
    station_a = has.room.station_a;
    station_b = has.room.station_b;
    here_a = has.room.here_a;
    here_b = has.room.here_b;
    room = has.room.room;
  };
}

start_at : (place : ℕ) (parts : WorldParts) (time : ℕ) → HasRoomToStart place parts
    → HasRoomToStart place (at_time time parts)
start_at place parts time has = record { station = has.station; here = has.here; room = has.room }

pub room_later : (target : ActTarget) (parts : WorldParts) (time : ℕ) → HasRoomForTarget target parts
    → HasRoomForTarget target (at_time time parts)
room_later (aims.Arrival lane) parts time has =
    λ join place there named. room_at place parts time (has join place there named)
room_later (aims.Timer place set) parts time has = room_at place parts time has
room_later (aims.LinkDown link) parts time has = λ up. ends_at link parts time (has up)
room_later (aims.LinkUp link) parts time has = λ down. ends_at link parts time (has down)
room_later (aims.LinkSet link bounds) parts time has = has
room_later (aims.Fail place) parts time has = has
room_later (aims.Recover place) parts time has = λ failed. start_at place parts time (has failed)
room_later (aims.Priority1 place set) parts time has = room_at place parts time has
room_later (aims.Inject lane) parts time has = has

pub stage_later : (parts : WorldParts) (time : ℕ) → IsMoment time → IsWorldParts parts
    → IsWorldParts (at_time time parts)
stage_later parts time early is = record {
  net = is.net;
  clocks = is.clocks;
  systems = is.systems;
  few = is.few;
  ports = is.ports;
  empty = is.empty;
  moment = early;
}

use Rattle.std.proofs.Common.{subst}
use Rattle.std.proofs.lemmas.Option.{slice_get_within}
use Rattle.gptp_model.specs.Pending.{IsNext}
use Rattle.gptp_world.specs.WorldParts.{world_of}
use Rattle.gptp_world.proofs.UnseenLemmas.{frame_due, timer_due}
use Rattle.gptp_world.proofs.world_parts.WorldParts.make_room_to_pass.Goals as goal

pub make_room-requires-clause-place : goal.make_room-requires-clause-place
make_room-requires-clause-place c =
    let parts = c.args.self.now in let (time, next) = c.requires.next in let out = c.in-Expiry in
    let due = timer_due out.place out.timer time (world_of parts) c.requires.sound
    (subst (IsNext (world_of parts).net.pending time) out.is next) in
    rw c.from.ensures (slice_get_within parts.stations.items out.place due.station due.here)

pub make_room_to_hear-requires-clause-link : goal.make_room_to_hear-requires-clause-link
make_room_to_hear-requires-clause-link c =
    let parts = c.args.self.now in let (time, next) = c.requires.next in let comes = c.in-Arrival in
    let due = frame_due comes.link comes.direction time (world_of parts) c.requires.sound
    (subst (IsNext (world_of parts).net.pending time) comes.is next) in
    rw c.from-in-Arrival.ensures
    (slice_get_within parts.net.traffic.net.channels comes.link due.channel due.here)

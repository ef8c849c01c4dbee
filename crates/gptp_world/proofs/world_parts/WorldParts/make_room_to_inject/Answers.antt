use Rattle.std.proofs.Common.{true, refl}
use Rattle.gptp_world.specs.Net.{LinkIs}
use Rattle.gptp_world.specs.Room.{for_frame, WorldHasRoom}
use Rattle.gptp_world.proofs.RoomLemmas.{both_ok, stage_stays}
use Rattle.gptp_world.proofs.PerformingLemmas.{never_both}
use Rattle.gptp_world.proofs.world_parts.WorldParts.make_room_to_inject.Goals as goal

pub returns-in-true-clause-parts : goal.returns-in-true-clause-parts
returns-in-true-clause-parts c = stage_stays c.args.self.now _ refl refl refl c.reserve.ensures.only c.requires.parts

pub returns-in-true-clause-room : goal.returns-in-true-clause-room
returns-in-true-clause-room c =
    both_ok c.reserve.result _ _ (LinkIs true c.args.lane.link c.reserve.new.self → WorldHasRoom for_frame c.reserve.new.self)
    c.reserve.ensures.entries c.reserve.ensures.buffers
    (λ entries buffers up. record { entries = entries; buffers = buffers })

pub returns-in-true-clause-free : goal.returns-in-true-clause-free
returns-in-true-clause-free c = λ down. absurd
    (never_both c.args.self.now.net c.args.lane.link c.is_up.result c.requires.link c.is_up.ensures (rw c.in-true.is
    down))

pub returns-in-false-clause-room : goal.returns-in-false-clause-room
returns-in-false-clause-room c = λ up. absurd
    (never_both c.args.self.now.net c.args.lane.link c.is_up.result c.requires.link c.is_up.ensures (rw c.in-false.is
    up))

use Rattle.gptp_world.proofs.RoomLemmas.{on_ok}
use Rattle.gptp_world.proofs.TellingLemmas.{room_at_ends}
use Rattle.gptp_world.proofs.world_parts.WorldParts.make_room_at_ends.Goals as goal

pub returns-clause-room : goal.returns-clause-room
returns-clause-room c =
    let e = c.make_room_for_both.ensures in
    on_ok c.make_room_for_both.result _ _
    (λ room. room_at_ends c.args.self.now c.make_room_for_both.new.self c.args.link c.ends_of.result.0
    c.ends_of.result.1 c.requires.parts e.parts e.world c.ends_of.ensures room)
    e.room

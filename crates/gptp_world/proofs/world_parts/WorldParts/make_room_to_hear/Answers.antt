use Rattle.gptp_world.proofs.DeliveringLemmas.{receiver_within, room_to_hear}
use Rattle.gptp_world.proofs.RoomLemmas.{on_ok}
use Rattle.gptp_world.proofs.world_parts.WorldParts.make_room_to_hear.Goals as goal

pub make_room-requires-clause-place : goal.make_room-requires-clause-place
make_room-requires-clause-place c =
    receiver_within c.args.self.now c.args.lane c.receiver-place.result c.requires.parts c.requires.link
    c.receiver-place.ensures

pub returns-clause-room : goal.returns-clause-room
returns-clause-room c =
    let e = c.make_room.ensures in
    on_ok c.make_room.result _ _
    (λ has. room_to_hear c.args.self.now c.make_room.new.self c.args.lane c.receiver-place.result c.requires.parts
    e.parts e.world c.well_formed-2.ensures c.receiver-place.ensures has)
    e.room

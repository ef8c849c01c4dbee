use Rattle.std.proofs.Common.{◌≡◌, Some, slice_get, refl, ap, sym, ◌∙◌, arith}
use Rattle.std.proofs.lemmas.Option.{slice_get-get_or}
use Rattle.gptp_world.specs.WorldParts.{HasRoomToCall}
use Rattle.gptp_world.proofs.RoomLemmas.{both_ok, room_to_call, stage_stays}
use Rattle.gptp_world.proofs.world_parts.WorldParts.make_room.Goals as goal

pub returns-clause-parts : goal.returns-clause-parts
returns-clause-parts c = stage_stays c.args.self.now _ refl refl refl c.reserve.ensures.only c.requires.parts

pub returns-clause-room : goal.returns-clause-room
returns-clause-room c =
    let one = c.index.result.now in let parts = c.args.self.now in
    let here : slice_get parts.stations.items c.args.place ≡ Some one =
    slice_get-get_or parts.stations.items c.args.place one c.requires.place ∙ ap Some (sym c.index.ensures) in
    let count = c.ports-ports.ensures in let ports = c.from-count.ensures in
    both_ok c.reserve.result _ _ (HasRoomToCall c.args.place (record parts { net = c.reserve.new.self }))
    c.reserve.ensures.entries c.reserve.ensures.buffers
    (λ entries buffers. room_to_call (record parts { net = c.reserve.new.self }) c.args.place one here
    (omega (arith, count, ports, entries)) (omega (arith, count, ports, buffers)))

use Rattle.std.proofs.Common.{◌≡◌, Some, slice_get, refl, ap, sym, ◌∙◌, arith}
use Rattle.std.proofs.lemmas.Option.{slice_get-get_or}
use Rattle.gptp_world.specs.WorldParts.{HasRoomToCallBoth}
use Rattle.gptp_world.proofs.RoomLemmas.{both_ok, room_to_call_both, stage_stays}
use Rattle.gptp_world.proofs.world_parts.WorldParts.make_room_for_both.Goals as goal

pub returns-clause-parts : goal.returns-clause-parts
returns-clause-parts c = stage_stays c.args.self.now _ refl refl refl c.reserve.ensures.only c.requires.parts

pub returns-clause-room : goal.returns-clause-room
returns-clause-room c =
    let near = c.index.result.now in let far = c.index-2.result.now in let parts = c.args.self.now in
    let here : slice_get parts.stations.items c.args.first ≡ Some near =
    slice_get-get_or parts.stations.items c.args.first near c.requires.first ∙ ap Some (sym c.index.ensures) in
    let there : slice_get parts.stations.items c.args.second ≡ Some far =
    slice_get-get_or parts.stations.items c.args.second far c.requires.second ∙ ap Some (sym c.index-2.ensures) in
    let near_count = c.ports-near.ensures in let far_count = c.ports-far.ensures in
    both_ok c.reserve.result _ _
    (HasRoomToCallBoth c.args.first c.args.second (record parts { net = c.reserve.new.self }))
    c.reserve.ensures.entries c.reserve.ensures.buffers
    (λ entries buffers. room_to_call_both (record parts { net = c.reserve.new.self }) c.args.first c.args.second near far
    here there (omega (arith, near_count, far_count, entries)) (omega (arith, near_count, far_count, buffers)))

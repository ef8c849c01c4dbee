use Rattle.std.proofs.Common.{◌≡◌, Some, slice_get, sym, ap, ◌∙◌}
use Rattle.std.proofs.lemmas.Option.{slice_get-get_or}
use Rattle.std.proofs.lemmas.Result.{on_ok_weaker}
use Rattle.gptp_world.proofs.world_parts.WorldParts.make_room_to_recover.Goals as goal

pub returns-in-true-clause-room : goal.returns-in-true-clause-room
returns-in-true-clause-room c = λ failed.
    let one = c.index.result.now in let stations = c.args.self.now.stations.items in
    let here : slice_get stations c.args.place ≡ Some one =
    slice_get-get_or stations c.args.place one c.requires.place ∙ ap Some (sym c.index.ensures) in
    let fails = failed one here in let lives = c.in-true.is in absurd cc

pub returns-in-false-clause-room : goal.returns-in-false-clause-room
returns-in-false-clause-room c =
    on_ok_weaker c.make_room_to_start.result (λ has failed. has) c.make_room_to_start.ensures.room

pub returns-in-false-clause-free : goal.returns-in-false-clause-free
returns-in-false-clause-free c = λ lives.
    let one = c.index.result.now in let stations = c.args.self.now.stations.items in
    let here : slice_get stations c.args.place ≡ Some one =
    slice_get-get_or stations c.args.place one c.requires.place ∙ ap Some (sym c.index.ensures) in
    let live = lives one here in let fails = c.in-false.is in absurd cc

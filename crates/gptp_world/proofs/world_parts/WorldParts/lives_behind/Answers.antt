use Rattle.std.proofs.Common.{◌<◌, length, refl, arith}
use Rattle.std.proofs.lemmas.Option.{slice_get_read}
use Rattle.gptp_world.proofs.DeliveringLemmas.{receiver_within}
use Rattle.gptp_world.proofs.UsedLemmas.{lives_there}
use Rattle.gptp_world.proofs.world_parts.WorldParts.lives_behind.Goals as goal

pub index-requires : goal.index-requires
index-requires c =
    let stations = c.args.self.now.stations in let long = stations.ok.0 in
    let within : c.receiver.result < length stations.items =
    receiver_within c.args.self.now c.args.lane c.receiver.result c.requires.founded.stage_kept c.requires.lane
    c.receiver.ensures in
    omega arith

pub returns : goal.returns
returns c = λ channel here.
    let parts = c.args.self.now in let place = c.receiver.result in
    let within = receiver_within parts c.args.lane place c.requires.founded.stage_kept c.requires.lane
    c.receiver.ensures in
    lives_there parts c.args.lane place channel c.requires.founded here c.receiver.ensures c.index.result.now
    (slice_get_read parts.stations.items (length parts.stations.items) place c.index.result.now refl within
    c.index.ensures)

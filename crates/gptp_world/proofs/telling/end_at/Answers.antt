use Rattle.std.proofs.Common.{slice_index_or, arith}
use Rattle.std.proofs.lemmas.Option.{slice_get-get_or}
use Rattle.gptp_world.proofs.TellingLemmas.{small_end}
use Rattle.gptp_world.proofs.telling.end_at.Goals as goal

pub overflow_cast-result : goal.overflow_cast-result
overflow_cast-result c =
    let d = c.args.directory.now in let lane = c.args.lane in
    let join = slice_index_or d.joins lane.link (record { a = c.port_at.result; b = c.port_at.result }) in
    let here = slice_get-get_or d.joins lane.link (record { a = c.port_at.result; b = c.port_at.result }) c.requires in
    let is = c.port_at.ensures join here in
    let small = small_end d.clocks d.joins lane.link lane.direction join c.well_formed-2.ensures.plan here in
    rw is (omega arith)

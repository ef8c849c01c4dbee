use Rattle.std.proofs.Common.{◌≤◌, length, map, ap, ◌∙◌, arith}
use Rattle.std.proofs.lemmas.List.{take_all}
use Rattle.gptp_model.specs.Views.{rising_clocks}
use Rattle.gptp_model.proofs.RisingLemmas.{rising_clocks-count}
use Rattle.gptp_timeline.specs.Readings.{no_reading}
use Rattle.gptp_timeline.proofs.time_watch.no_readings.Goals as goal

pub returns : goal.returns
returns g c =
    let w = c.args.world.now.world_core in
    let count = rising_clocks-count w in let total = c.count-place-end.ensures.count in
    let past = c.loop-place-test.false in
    let all : length (rising_clocks w) ≤ c.loop-place.place = omega (arith, count, total, past) in
    c.loop-place.invariant ∙ ap (map no_reading) (take_all c.loop-place.place (rising_clocks w) all)

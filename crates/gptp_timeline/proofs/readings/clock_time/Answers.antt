use Rattle.gptp_timeline.proofs.ClockLemmas.{clock_shown}
use Rattle.gptp_timeline.proofs.readings.clock_time.Goals as goal

pub returns : goal.returns
returns g c =
    clock_shown c.args.clock c.args.at c.args.world.now.world_core c.local.result
    c.well_formed-2.ensures.sound.wired.clocks c.local.ensures.some c.local.ensures.none

use Rattle.std.proofs.Common.{◌∙◌, sym}
use Rattle.gptp_timeline.proofs.ClockLemmas.{base_missing, base_there}
use Rattle.gptp_timeline.proofs.readings.base_of.Goals as goal

pub returns-in-Some : goal.returns-in-Some
returns-in-Some g c =
    base_there c.args.clock c.args.world.now.world_core c.in-Some.base c.well_formed-2.ensures.sound.wired.clocks
    c.in-Some.ensures.some

pub returns-in-None : goal.returns-in-None
returns-in-None g c =
    c.no_base.ensures ∙ sym (base_missing c.args.clock c.args.world.now.world_core c.in-None.ensures.none)

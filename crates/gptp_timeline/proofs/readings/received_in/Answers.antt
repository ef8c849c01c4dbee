use Rattle.std.proofs.Common.{◌∙◌, sym, ap, option_and_then}
use Rattle.gptp_timeline.specs.Readings.{received_reading}
use Rattle.gptp_timeline.proofs.ShownLemmas.{live_shown, none_shown}
use Rattle.gptp_timeline.proofs.readings.received_in.Goals as goal

pub returns-in-Some : goal.returns-in-Some
returns-in-Some g c =
    c.received_reading.ensures
    ∙ sym (ap (option_and_then (received_reading c.args.world.now.world_core)) (live_shown c.args.clock c.args.world.now.world_core
    c.in-Some.system.now c.well_formed-2.ensures.sound.wired.clocks c.in-Some.ensures.some))

pub returns-in-None : goal.returns-in-None
returns-in-None g c =
    sym (ap (option_and_then (received_reading c.args.world.now.world_core)) (none_shown c.args.clock c.args.world.now.world_core
    c.in-None.ensures.none))

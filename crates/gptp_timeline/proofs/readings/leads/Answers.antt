use Rattle.std.proofs.Common.{◌∙◌, sym, ap, Option, false}
use Rattle.std.specs.Option.{option_map_or}
use Rattle.gptp_system.specs.State.{SystemState}
use Rattle.gptp_timeline.specs.Readings.{is_leading}
use Rattle.gptp_timeline.proofs.ShownLemmas.{live_shown, none_shown}
use Rattle.gptp_timeline.proofs.readings.leads.Goals as goal

pub returns-in-Some : goal.returns-in-Some
returns-in-Some g c =
    c.is_leading.ensures
    ∙ sym (ap (λ (s : Option SystemState). option_map_or is_leading s false) (live_shown c.args.clock
    c.args.world.now.world_core c.in-Some.system.now c.well_formed-2.ensures.sound.wired.clocks c.in-Some.ensures.some))

pub returns-in-None : goal.returns-in-None
returns-in-None g c =
    sym (ap (λ (s : Option SystemState). option_map_or is_leading s false) (none_shown c.args.clock
    c.args.world.now.world_core c.in-None.ensures.none))

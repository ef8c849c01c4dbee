use Rattle.std.proofs.Common.{◌++◌, ◌∷◌, [], List, map, take, sym, ap, ◌∙◌}
use Rattle.std.proofs.lemmas.List.{map-append}
use Rattle.gptp_model.specs.Views.{rising_clocks}
use Rattle.gptp_lists.proofs.MappedLemmas.{taken}
use Rattle.gptp_timeline.specs.Readings.{no_reading}
use Rattle.gptp_timeline.specs.declared.readings.SystemReading.{SystemReading}
use Rattle.gptp_timeline.proofs.PutLemmas.{none_more}
use Rattle.gptp_timeline.proofs.time_watch.push_no_reading.Goals as goal

pub returns-in_ok-push : goal.returns-in_ok-push
returns-in_ok-push g c =
    let names = rising_clocks c.args.world.now.world_core in let place = c.args.place in let clock = c.in-Some.clock in
    c.in_ok-push.ensures.items
    ∙ ap (λ (xs : List SystemReading). xs ++ no_reading clock ∷ []) c.requires
    ∙ sym (ap (map no_reading) (taken names place clock (sym c.in-Some.ensures))
    ∙ map-append no_reading (take place names) (clock ∷ []))

pub returns-in_default : goal.returns-in_default
returns-in_default g c =
    let names = rising_clocks c.args.world.now.world_core in
    c.requires ∙ ap (map no_reading) (none_more names c.args.place (sym c.clock_at.ensures ∙ c.in_default.is))

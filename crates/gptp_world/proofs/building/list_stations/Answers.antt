use Rattle.std.proofs.Common.{◌∙◌, ap, sym, ◌++◌, ◌∷◌, []}
use Rattle.gptp_model.specs.Initial.{stations_of}
use Rattle.gptp_scenario.specs.Network.{seeded}
use Rattle.gptp_lists.proofs.MappedLemmas.{taken}
use Rattle.gptp_world.proofs.building.list_stations.Goals as goal

pub loop-place-preserved : goal.loop-place-preserved
loop-place-preserved c =
    c.in_ok-push.ensures.items ∙ ap (λ xs. xs ++ c.in_ok-station_in.field-0 ∷ []) c.loop-place.invariant
    ∙ sym (taken (stations_of (seeded c.args.seed c.args.network.now)) c.loop-place.place c.in_ok-station_in.field-0
    c.in_ok-station_in.ensures)

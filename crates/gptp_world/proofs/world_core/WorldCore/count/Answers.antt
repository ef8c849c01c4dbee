use Rattle.std.proofs.Common.{◌≡◌, ℕ, List, length, ap, sym, ◌∙◌, arith}
use Rattle.std.proofs.lemmas.List.{length-map}
use Rattle.gptp_world.specs.WorldParts.{clock_at_place}
use Rattle.gptp_world.proofs.world_core.WorldCore.count.Goals as goal

pub returns-clause-few : goal.returns-clause-few
returns-clause-few c =
    let parts = c.self.inside.parts in
    let same : length parts.stations.items ≡ length parts.net.directory.clocks =
    sym (length-map parts.stations.items clock_at_place)
    ∙ ap (λ (clocks : List ℕ). length clocks) c.self.invariant.stage_kept.clocks in
    let few = c.well_formed-2.ensures.plan.few_systems in
    omega (arith, same, few)

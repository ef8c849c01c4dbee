-- What is told of the link at the place is the link's.
use Rattle.std.proofs.Common.{slice_get, ◌∙◌}
use Rattle.gptp_scenario.specs.declared.network.LinkSpec.{LinkSpec}
use Rattle.gptp_network.proofs.FoundLemmas.{ends_told, no_ends}
use Rattle.gptp_network.proofs.found.joins.Goals as goal

pub returns-in-Some : goal.returns-in-Some
returns-in-Some c =
    c.is_either.ensures
    ∙ ends_told (λ (w : LinkSpec). w.bounds) c.args.port.now
    (slice_get c.args.network.now.links c.args.place) c.in-Some.link
    c.in-Some.ensures

pub returns-in-None : goal.returns-in-None
returns-in-None c =
    no_ends (λ (w : LinkSpec). w.bounds) c.args.port.now
    (slice_get c.args.network.now.links c.args.place) c.in-None.ensures

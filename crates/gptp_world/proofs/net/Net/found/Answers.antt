use Rattle.std.proofs.Common.{slice_get, ap, sym, ◌∙◌}
use Rattle.gptp_lists.proofs.MappedLemmas.{mapped_there}
use Rattle.gptp_traffic.specs.Traffic.{idle_channel}
use Rattle.gptp_world.proofs.InitialLemmas.{idle_net, initial_on_time}
use Rattle.gptp_world.proofs.net.Net.found.Goals as goal

pub new-requires-2-clause-fit : goal.new-requires-2-clause-fit
new-requires-2-clause-fit c = λ place link there.
    let n = c.args.network.now in
    (initial_on_time n c.well_formed-2.ensures).links place (idle_channel link)
    (ap (λ cs. slice_get cs place) (sym c.in_ok-links.ensures)
    ∙ mapped_there idle_channel c.in_ok-links.links.items place link there)

pub returns-clause-net : goal.returns-clause-net
returns-clause-net c =
    idle_net c.args.network.now _ (c.in_ok-traffic.ensures.channels ∙ c.in_ok-links.ensures)
    c.in_ok-directory.ensures.joins

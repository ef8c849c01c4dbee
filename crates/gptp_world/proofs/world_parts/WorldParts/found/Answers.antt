use Rattle.gptp_world.proofs.InitialLemmas.{initial_stage}
use Rattle.gptp_world.proofs.world_parts.WorldParts.found.Goals as goal
use Rattle.std.proofs.Common.{refl}
use Rattle.gptp_scenario.specs.Network.{seeded}
use Rattle.gptp_scenario.proofs.NetworkLemmas.{seeded_network}

pub returns-clause-parts : goal.returns-clause-parts
returns-clause-parts c =
    let net = c.in_ok-net.ensures in
    initial_stage (seeded c.args.seed c.args.network.now) _
    (seeded_network c.args.network.now c.args.seed c.well_formed-2.ensures) net.net c.in_ok-stations.ensures net.clocks
    net.joins net.systems c.new.ensures refl

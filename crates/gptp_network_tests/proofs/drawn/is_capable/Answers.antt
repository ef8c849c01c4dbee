use Rattle.std.proofs.Common.{◌∙◌}
use Rattle.gptp_network_tests.proofs.PairLemmas.{second_has_port, second_is_capable}
use Rattle.gptp_network_tests.proofs.drawn.is_capable.Goals as goal

pub capable-requires : goal.capable-requires
capable-requires g c =
    second_has_port 14000000000 c.args.world.now.world_core c.args.system.now c.requires.at c.requires.second

pub returns : goal.returns
returns g c =
    c.capable.ensures
    ∙ second_is_capable c.args.world.now.world_core c.args.system.now c.requires.at c.requires.second c.requires.capable

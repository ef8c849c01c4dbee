use Rattle.gptp_network_tests.proofs.PairLemmas.{lives}
use Rattle.gptp_network_tests.proofs.drawn.second_is_capable.Goals as goal

pub returns-in-None : goal.returns-in-None
returns-in-None g c =
    absurd (c.in-None.ensures.none (lives 14000000000 c.args.world.now.world_core c.from.result c.from.ensures
    c.requires))

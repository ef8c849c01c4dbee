use Rattle.gptp_network_tests.proofs.PairLemmas.{followed}
use Rattle.gptp_network_tests.proofs.drawn.second_follows.Goals as goal

pub returns : goal.returns
returns g c =
    let shown = c.follows.ensures in
    followed c.args.world.now.world_core c.from.result c.follows.result c.from.ensures c.requires shown.settled
    shown.none

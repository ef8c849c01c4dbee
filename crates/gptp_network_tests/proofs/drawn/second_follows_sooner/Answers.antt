use Rattle.gptp_network_tests.proofs.PairLemmas.{followed_sooner}
use Rattle.gptp_network_tests.proofs.drawn.second_follows_sooner.Goals as goal

pub returns : goal.returns
returns g c =
    let shown = c.follows.ensures in
    followed_sooner c.args.world.now.world_core c.from-second.result c.follows.result c.from-second.ensures
    c.requires shown.by_distance shown.none

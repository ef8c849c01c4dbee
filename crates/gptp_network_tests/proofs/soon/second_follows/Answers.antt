use Rattle.gptp_network_tests.proofs.SoonLemmas.{followed_soon}
use Rattle.gptp_network_tests.proofs.soon.second_follows.Goals as goal

pub returns : goal.returns
returns g c =
    let shown = c.follows.ensures in
    followed_soon c.args.world.now.world_core c.from.result c.follows.result c.from.ensures c.requires shown.some
    shown.none

use Rattle.gptp_network_tests.proofs.PairLemmas.{followed_by_paths}
use Rattle.gptp_network_tests.proofs.drawn.second_follows_by_paths.Goals as goal

pub returns : goal.returns
returns g c =
    let shown = c.follows.ensures in
    followed_by_paths c.args.world.now.world_core c.from-second.result c.follows.result c.from-second.ensures
    c.requires shown.by_paths shown.none

use Rattle.gptp_network_tests.proofs.BoundsLemmas.{kept}
use Rattle.gptp_network_tests.proofs.bounds.told_is_kept.Goals as goal

pub returns : goal.returns
returns g c =
    kept g.F.Fate.answers c.chooses_soon.ensures c.settled_soon.ensures c.exact_soon.ensures

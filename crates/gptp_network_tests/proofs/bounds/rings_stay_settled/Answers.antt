use Rattle.std.proofs.Common.{refl}
use Rattle.gptp_scenario.specs.InUse.{path_systems}
use Rattle.gptp_scenario.specs.Network.{largest_of, smallest_of}
use Rattle.gptp_how_soon.specs.MovedTrees.{moves_trees}
use Rattle.gptp_network_tests.proofs.BoundsLemmas.{keeps}
use Rattle.gptp_network_tests.proofs.bounds.rings_stay_settled.Goals as goal

pub returns-clause-idle : goal.returns-clause-idle
unfolding path_systems largest_of smallest_of moves_trees
returns-clause-idle g c = keeps g.F.Fate.answers c.told_is_kept.ensures _ _ _ _ _ refl refl refl

pub returns-clause-worse : goal.returns-clause-worse
unfolding path_systems largest_of smallest_of moves_trees
returns-clause-worse g c = keeps g.F.Fate.answers c.told_is_kept.ensures _ _ _ _ _ refl refl refl

pub returns-clause-wider : goal.returns-clause-wider
unfolding path_systems largest_of smallest_of moves_trees
returns-clause-wider g c = keeps g.F.Fate.answers c.told_is_kept.ensures _ _ _ _ _ refl refl refl

use Rattle.std.proofs.Common.{refl}
use Rattle.gptp_scenario.specs.InUse.{path_systems}
use Rattle.gptp_scenario.specs.Network.{largest_of, smallest_of}
use Rattle.gptp_how_soon.specs.MovedTrees.{moves_trees}
use Rattle.gptp_network_tests.proofs.BoundsLemmas.{keeps}
use Rattle.gptp_network_tests.proofs.bounds.several_losses_settle_soon.Goals as goal

pub returns-clause-none_moved : goal.returns-clause-none_moved
unfolding path_systems largest_of smallest_of moves_trees
returns-clause-none_moved g c = keeps g.F.Fate.answers c.told_is_kept.ensures _ _ _ _ _ refl refl refl

pub returns-clause-far_ends : goal.returns-clause-far_ends
unfolding path_systems largest_of smallest_of moves_trees
returns-clause-far_ends g c = keeps g.F.Fate.answers c.told_is_kept.ensures _ _ _ _ _ refl refl refl

pub returns-clause-one_moved : goal.returns-clause-one_moved
unfolding path_systems largest_of smallest_of moves_trees
returns-clause-one_moved g c = keeps g.F.Fate.answers c.told_is_kept.ensures _ _ _ _ _ refl refl refl

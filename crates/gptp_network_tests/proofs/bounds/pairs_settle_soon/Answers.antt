use Rattle.std.proofs.Common.{refl}
use Rattle.gptp_scenario.specs.InUse.{path_systems}
use Rattle.gptp_scenario.specs.Network.{largest_of, smallest_of}
use Rattle.gptp_how_soon.specs.MovedTrees.{moves_trees}
use Rattle.gptp_network_tests.proofs.BoundsLemmas.{keeps}
use Rattle.gptp_network_tests.proofs.bounds.pairs_settle_soon.Goals as goal

pub returns-clause-begin : goal.returns-clause-begin
unfolding path_systems largest_of smallest_of moves_trees
returns-clause-begin g c = keeps g.F.Fate.answers c.told_is_kept.ensures _ _ _ _ _ refl refl refl

pub returns-clause-early : goal.returns-clause-early
unfolding path_systems largest_of smallest_of moves_trees
returns-clause-early g c = keeps g.F.Fate.answers c.told_is_kept.ensures _ _ _ _ _ refl refl refl

pub returns-clause-better : goal.returns-clause-better
unfolding path_systems largest_of smallest_of moves_trees
returns-clause-better g c = keeps g.F.Fate.answers c.told_is_kept.ensures _ _ _ _ _ refl refl refl

pub returns-clause-down : goal.returns-clause-down
unfolding path_systems largest_of smallest_of moves_trees
returns-clause-down g c = keeps g.F.Fate.answers c.told_is_kept.ensures _ _ _ _ _ refl refl refl

pub returns-clause-up : goal.returns-clause-up
unfolding path_systems largest_of smallest_of moves_trees
returns-clause-up g c = keeps g.F.Fate.answers c.told_is_kept.ensures _ _ _ _ _ refl refl refl

use Rattle.std.proofs.Common.{refl}
use Rattle.gptp_scenario.specs.InUse.{path_systems}
use Rattle.gptp_scenario.specs.Network.{largest_of, smallest_of}
use Rattle.gptp_how_soon.specs.MovedTrees.{moves_trees}
use Rattle.gptp_network_tests.proofs.BoundsLemmas.{keeps}
use Rattle.gptp_network_tests.proofs.bounds.lost_links_settle_soon.Goals as goal

pub returns-clause-none_moved : goal.returns-clause-none_moved
unfolding path_systems largest_of smallest_of moves_trees
returns-clause-none_moved g c = keeps g.F.Fate.answers c.told_is_kept.ensures _ _ _ _ _ refl refl refl

pub returns-clause-cut_off : goal.returns-clause-cut_off
unfolding path_systems largest_of smallest_of moves_trees
returns-clause-cut_off g c = keeps g.F.Fate.answers c.told_is_kept.ensures _ _ _ _ _ refl refl refl

pub returns-clause-turns : goal.returns-clause-turns
unfolding path_systems largest_of smallest_of moves_trees
returns-clause-turns g c = keeps g.F.Fate.answers c.told_is_kept.ensures _ _ _ _ _ refl refl refl

pub returns-clause-falls : goal.returns-clause-falls
unfolding path_systems largest_of smallest_of moves_trees
returns-clause-falls g c = keeps g.F.Fate.answers c.told_is_kept.ensures _ _ _ _ _ refl refl refl

pub returns-clause-tree_turns : goal.returns-clause-tree_turns
unfolding path_systems largest_of smallest_of moves_trees
returns-clause-tree_turns g c = keeps g.F.Fate.answers c.told_is_kept.ensures _ _ _ _ _ refl refl refl

pub returns-clause-other : goal.returns-clause-other
unfolding path_systems largest_of smallest_of moves_trees
returns-clause-other g c = keeps g.F.Fate.answers c.told_is_kept.ensures _ _ _ _ _ refl refl refl

pub returns-clause-best_worse : goal.returns-clause-best_worse
unfolding path_systems largest_of smallest_of moves_trees
returns-clause-best_worse g c = keeps g.F.Fate.answers c.told_is_kept.ensures _ _ _ _ _ refl refl refl

use Rattle.std.proofs.Common.{refl}
use Rattle.gptp_scenario.specs.InUse.{path_systems}
use Rattle.gptp_scenario.specs.Network.{largest_of, smallest_of}
use Rattle.gptp_how_soon.specs.MovedTrees.{moves_trees}
use Rattle.gptp_network_tests.proofs.BoundsLemmas.{keeps}
use Rattle.gptp_network_tests.proofs.bounds.gains_settle_soon.Goals as goal

pub returns-clause-begin : goal.returns-clause-begin
unfolding path_systems largest_of smallest_of moves_trees
returns-clause-begin g c = keeps g.F.Fate.answers c.told_is_kept.ensures _ _ _ _ _ refl refl refl

pub returns-clause-in_time : goal.returns-clause-in_time
unfolding path_systems largest_of smallest_of moves_trees
returns-clause-in_time g c = keeps g.F.Fate.answers c.told_is_kept.ensures _ _ _ _ _ refl refl refl

pub returns-clause-up : goal.returns-clause-up
unfolding path_systems largest_of smallest_of moves_trees
returns-clause-up g c = keeps g.F.Fate.answers c.told_is_kept.ensures _ _ _ _ _ refl refl refl

pub returns-clause-up_early : goal.returns-clause-up_early
unfolding path_systems largest_of smallest_of moves_trees
returns-clause-up_early g c = keeps g.F.Fate.answers c.told_is_kept.ensures _ _ _ _ _ refl refl refl

pub returns-clause-recovered : goal.returns-clause-recovered
unfolding path_systems largest_of smallest_of moves_trees
returns-clause-recovered g c = keeps g.F.Fate.answers c.told_is_kept.ensures _ _ _ _ _ refl refl refl

pub returns-clause-better : goal.returns-clause-better
unfolding path_systems largest_of smallest_of moves_trees
returns-clause-better g c = keeps g.F.Fate.answers c.told_is_kept.ensures _ _ _ _ _ refl refl refl

pub returns-clause-better_beside : goal.returns-clause-better_beside
unfolding path_systems largest_of smallest_of moves_trees
returns-clause-better_beside g c = keeps g.F.Fate.answers c.told_is_kept.ensures _ _ _ _ _ refl refl refl

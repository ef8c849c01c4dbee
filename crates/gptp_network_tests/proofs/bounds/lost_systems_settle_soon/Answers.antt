use Rattle.std.proofs.Common.{refl}
use Rattle.gptp_scenario.specs.InUse.{path_systems}
use Rattle.gptp_scenario.specs.Network.{largest_of, smallest_of}
use Rattle.gptp_how_soon.specs.MovedTrees.{moves_trees}
use Rattle.gptp_network_tests.proofs.BoundsLemmas.{keeps}
use Rattle.gptp_network_tests.proofs.bounds.lost_systems_settle_soon.Goals as goal

pub returns-clause-far_end : goal.returns-clause-far_end
unfolding path_systems largest_of smallest_of moves_trees
returns-clause-far_end g c = keeps g.F.Fate.answers c.told_is_kept.ensures _ _ _ _ _ refl refl refl

pub returns-clause-far_end_set : goal.returns-clause-far_end_set
unfolding path_systems largest_of smallest_of moves_trees
returns-clause-far_end_set g c = keeps g.F.Fate.answers c.told_is_kept.ensures _ _ _ _ _ refl refl refl

pub returns-clause-heard : goal.returns-clause-heard
unfolding path_systems largest_of smallest_of moves_trees
returns-clause-heard g c = keeps g.F.Fate.answers c.told_is_kept.ensures _ _ _ _ _ refl refl refl

pub returns-clause-heard_and_cuts : goal.returns-clause-heard_and_cuts
unfolding path_systems largest_of smallest_of moves_trees
returns-clause-heard_and_cuts g c = keeps g.F.Fate.answers c.told_is_kept.ensures _ _ _ _ _ refl refl refl

pub returns-clause-cuts_off : goal.returns-clause-cuts_off
unfolding path_systems largest_of smallest_of moves_trees
returns-clause-cuts_off g c = keeps g.F.Fate.answers c.told_is_kept.ensures _ _ _ _ _ refl refl refl

pub returns-clause-leaves_alone : goal.returns-clause-leaves_alone
unfolding path_systems largest_of smallest_of moves_trees
returns-clause-leaves_alone g c = keeps g.F.Fate.answers c.told_is_kept.ensures _ _ _ _ _ refl refl refl

pub returns-clause-turns_and_cuts : goal.returns-clause-turns_and_cuts
unfolding path_systems largest_of smallest_of moves_trees
returns-clause-turns_and_cuts g c = keeps g.F.Fate.answers c.told_is_kept.ensures _ _ _ _ _ refl refl refl

pub returns-clause-two_tops : goal.returns-clause-two_tops
unfolding path_systems largest_of smallest_of moves_trees
returns-clause-two_tops g c = keeps g.F.Fate.answers c.told_is_kept.ensures _ _ _ _ _ refl refl refl

pub returns-clause-two_tops_and_cuts : goal.returns-clause-two_tops_and_cuts
unfolding path_systems largest_of smallest_of moves_trees
returns-clause-two_tops_and_cuts g c = keeps g.F.Fate.answers c.told_is_kept.ensures _ _ _ _ _ refl refl refl

pub returns-clause-far_end_off : goal.returns-clause-far_end_off
unfolding path_systems largest_of smallest_of moves_trees
returns-clause-far_end_off g c = keeps g.F.Fate.answers c.told_is_kept.ensures _ _ _ _ _ refl refl refl

pub returns-clause-best_off : goal.returns-clause-best_off
unfolding path_systems largest_of smallest_of moves_trees
returns-clause-best_off g c = keeps g.F.Fate.answers c.told_is_kept.ensures _ _ _ _ _ refl refl refl

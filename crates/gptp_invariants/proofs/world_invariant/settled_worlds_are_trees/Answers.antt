use Rattle.gptp_invariants.proofs.WorldTreeLemmas.{settled_is_tree}
use Rattle.gptp_invariants.proofs.world_invariant.settled_worlds_are_trees.Goals as goal

pub returns : goal.returns
returns c = settled_is_tree

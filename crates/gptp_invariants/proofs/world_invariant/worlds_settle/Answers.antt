use Rattle.gptp_invariants.proofs.WorldSettlingInvariantLemmas.{calm_without, claimed_settled, settled_at_once, settled_by_neighbours, settled_by_paths}
use Rattle.gptp_invariants.proofs.world_invariant.worlds_settle.Goals as goal

pub returns-clause-systems : goal.returns-clause-systems
returns-clause-systems c = claimed_settled

pub returns-clause-by_paths : goal.returns-clause-by_paths
returns-clause-by_paths c = settled_by_paths

pub returns-clause-neighbours : goal.returns-clause-neighbours
returns-clause-neighbours c = settled_by_neighbours

pub returns-clause-without_timeout : goal.returns-clause-without_timeout
returns-clause-without_timeout c = calm_without

pub returns-clause-at_once : goal.returns-clause-at_once
returns-clause-at_once c = settled_at_once

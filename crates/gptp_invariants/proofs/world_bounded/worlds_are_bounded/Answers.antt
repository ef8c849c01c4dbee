use Rattle.gptp_invariants.proofs.WorldBoundedLemmas.{bounded_at_once, bounded_by_paths, claimed_bounded}
use Rattle.gptp_invariants.proofs.world_bounded.worlds_are_bounded.Goals as goal

pub returns-clause-systems : goal.returns-clause-systems
returns-clause-systems c = claimed_bounded

pub returns-clause-by_paths : goal.returns-clause-by_paths
returns-clause-by_paths c = bounded_by_paths

pub returns-clause-at_once : goal.returns-clause-at_once
returns-clause-at_once c = bounded_at_once

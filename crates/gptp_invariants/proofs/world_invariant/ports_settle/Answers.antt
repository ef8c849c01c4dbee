use Rattle.gptp_invariants.proofs.WorldSettlingInvariantLemmas.{claimed_capable, over_capable, settled_capable}
use Rattle.gptp_invariants.proofs.world_invariant.ports_settle.Goals as goal

pub returns-clause-ports : goal.returns-clause-ports
returns-clause-ports c = claimed_capable

pub returns-clause-sooner : goal.returns-clause-sooner
returns-clause-sooner c = settled_capable

pub returns-clause-by_paths : goal.returns-clause-by_paths
returns-clause-by_paths c = over_capable

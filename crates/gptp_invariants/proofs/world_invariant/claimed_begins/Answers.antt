use Rattle.gptp_invariants.proofs.WorldSettlingInvariantLemmas.{claimed_begins}
use Rattle.gptp_invariants.proofs.world_invariant.claimed_begins.Goals as goal

pub returns : goal.returns
returns g c = claimed_begins g.F.Fate.answers

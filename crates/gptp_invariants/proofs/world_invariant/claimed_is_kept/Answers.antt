use Rattle.gptp_invariants.proofs.WorldSettlingInvariantLemmas.{claimed_kept, claimed_later}
use Rattle.gptp_invariants.proofs.world_invariant.claimed_is_kept.Goals as goal

pub returns-clause-done : goal.returns-clause-done
returns-clause-done g c = claimed_kept g.F.Fate.answers

pub returns-clause-time : goal.returns-clause-time
returns-clause-time g c = claimed_later

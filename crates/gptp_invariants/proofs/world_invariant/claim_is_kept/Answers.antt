use Rattle.gptp_invariants.proofs.WorldClaimLemmas.{claim_capable, claim_kept, claim_later}
use Rattle.gptp_invariants.proofs.world_invariant.claim_is_kept.Goals as goal

pub returns-clause-done : goal.returns-clause-done
returns-clause-done g c = claim_kept g.F.Fate.answers

pub returns-clause-time : goal.returns-clause-time
returns-clause-time g c = claim_later

pub returns-clause-capable : goal.returns-clause-capable
returns-clause-capable g c = claim_capable

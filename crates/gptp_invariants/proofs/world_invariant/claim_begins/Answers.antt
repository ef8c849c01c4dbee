use Rattle.gptp_invariants.proofs.WorldClaimLemmas.{claim_begins}
use Rattle.gptp_invariants.proofs.world_invariant.claim_begins.Goals as goal

pub returns : goal.returns
returns g c = claim_begins g.F.Fate.answers

use Rattle.gptp_invariants.proofs.SyncFollowClaimLemmas.{calm_offsets_are_exact}
use Rattle.gptp_invariants.proofs.sync_timed_claim.calm_offsets_are_exact.Goals as goal

pub returns : goal.returns
returns c = calm_offsets_are_exact

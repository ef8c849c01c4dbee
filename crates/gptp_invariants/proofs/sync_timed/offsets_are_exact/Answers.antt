use Rattle.gptp_invariants.proofs.SyncFollowOffsetLemmas.{offsets_are_exact}
use Rattle.gptp_invariants.proofs.sync_timed.offsets_are_exact.Goals as goal

pub returns : goal.returns
returns c = offsets_are_exact

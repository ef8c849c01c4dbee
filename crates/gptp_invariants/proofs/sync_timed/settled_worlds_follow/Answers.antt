use Rattle.gptp_invariants.proofs.SyncFollowMeasureLemmas.{measured_right}
use Rattle.gptp_invariants.proofs.SyncFollowWorldLemmas.{claimed_is_settled_from, others_follow}
use Rattle.gptp_invariants.proofs.sync_timed.settled_worlds_follow.Goals as goal

pub returns-clause-settled : goal.returns-clause-settled
returns-clause-settled c = claimed_is_settled_from

pub returns-clause-follow : goal.returns-clause-follow
returns-clause-follow c = others_follow

pub returns-clause-measured : goal.returns-clause-measured
returns-clause-measured c = measured_right

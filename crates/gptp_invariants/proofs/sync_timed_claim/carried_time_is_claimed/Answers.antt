use Rattle.gptp_invariants.proofs.SyncFollowClaimLemmas.{carries_begins, carries_kept, carries_later}
use Rattle.gptp_invariants.proofs.sync_timed_claim.carried_time_is_claimed.Goals as goal

pub returns-clause-begins : goal.returns-clause-begins
returns-clause-begins g c = carries_begins g.F.Fate.answers

pub returns-clause-acts : goal.returns-clause-acts
returns-clause-acts g c = carries_kept g.F.Fate.answers

pub returns-clause-time : goal.returns-clause-time
returns-clause-time g c = carries_later

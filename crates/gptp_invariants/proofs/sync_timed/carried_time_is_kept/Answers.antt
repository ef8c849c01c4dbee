use Rattle.gptp_invariants.proofs.SyncFollowLaterLemmas.{time_begins, time_carries}
use Rattle.gptp_invariants.proofs.SyncFollowWorldLemmas.{acts_carry_time, done_carries}
use Rattle.gptp_invariants.proofs.sync_timed.carried_time_is_kept.Goals as goal

pub returns-clause-begins : goal.returns-clause-begins
returns-clause-begins g c = time_begins

pub returns-clause-acts : goal.returns-clause-acts
returns-clause-acts g c = acts_carry_time

pub returns-clause-time : goal.returns-clause-time
returns-clause-time g c = time_carries

pub returns-clause-done : goal.returns-clause-done
returns-clause-done g c = done_carries g.F.Fate.answers

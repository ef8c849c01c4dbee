use Rattle.gptp_invariants.proofs.SyncExactLemmas.{all_begins, all_kept, all_later}
use Rattle.gptp_invariants.proofs.sync_timed_claim.all_is_claimed.Goals as goal

pub returns-clause-begins : goal.returns-clause-begins
returns-clause-begins g c = all_begins g.F.Fate.answers

pub returns-clause-acts : goal.returns-clause-acts
returns-clause-acts g c = all_kept g.F.Fate.answers

pub returns-clause-time : goal.returns-clause-time
returns-clause-time g c = all_later

use Rattle.gptp_invariants.proofs.SyncActLemmas.{acts_tell, timers_seen}
use Rattle.gptp_invariants.proofs.sync_acts.acts_tell_syncs.Goals as goal

pub returns-clause-acts : goal.returns-clause-acts
returns-clause-acts c =
    λ p m start times act w draws done w' none sound encodable known on k.
    acts_tell p m start times w sound encodable known.set known.time on act draws done w' none k

pub returns-clause-timers : goal.returns-clause-timers
returns-clause-timers c = timers_seen

use Rattle.gptp_invariants.proofs.SyncSaidLemmas.{leaders_tell, relays_tell, tells_in_pairs}
use Rattle.gptp_invariants.proofs.sync_acts.time_is_told_in_pairs.Goals as goal

pub returns-clause-pairs : goal.returns-clause-pairs
returns-clause-pairs c = tells_in_pairs

pub returns-clause-leaders : goal.returns-clause-leaders
returns-clause-leaders c = leaders_tell

pub returns-clause-relays : goal.returns-clause-relays
returns-clause-relays c = relays_tell

use Rattle.gptp_invariants.proofs.SyncHeardLemmas.{follow_ups_are_used, syncs_are_kept}
use Rattle.gptp_invariants.proofs.sync_acts.syncs_are_heard.Goals as goal

pub returns-clause-kept : goal.returns-clause-kept
returns-clause-kept c = syncs_are_kept

pub returns-clause-used : goal.returns-clause-used
returns-clause-used c = follow_ups_are_used

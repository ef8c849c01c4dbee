use Rattle.gptp_invariants.proofs.WorldDueLemmas.{ports_known, receipts_outlast}
use Rattle.gptp_invariants.proofs.world_known.ports_are_due.Goals as goal

pub returns-clause-due : goal.returns-clause-due
returns-clause-due c = ports_known

pub returns-clause-long : goal.returns-clause-long
returns-clause-long c = receipts_outlast

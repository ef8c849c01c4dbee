use Rattle.gptp_invariants.proofs.DelayChangeKeptLemmas.{initially_measured, starts_measured}
use Rattle.gptp_invariants.proofs.delay_link_worlds.begins_measured.Goals as goal

pub returns-clause-initially : goal.returns-clause-initially
returns-clause-initially c = initially_measured

pub returns-clause-starts : goal.returns-clause-starts
returns-clause-starts c = starts_measured

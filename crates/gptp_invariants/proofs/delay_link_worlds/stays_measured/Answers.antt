use Rattle.gptp_invariants.proofs.DelayChangeKeptLemmas.{acts_measured, later_measured}
use Rattle.gptp_invariants.proofs.delay_link_worlds.stays_measured.Goals as goal

pub returns-clause-acts : goal.returns-clause-acts
returns-clause-acts c = acts_measured

pub returns-clause-later : goal.returns-clause-later
returns-clause-later c = later_measured

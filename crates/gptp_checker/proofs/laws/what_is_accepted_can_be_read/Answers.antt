use Rattle.gptp_checker.proofs.ReadableLemmas.{accepted_length, accepted_readable}
use Rattle.gptp_checker.proofs.laws.what_is_accepted_can_be_read.Goals as goal

pub returns-clause-readable : goal.returns-clause-readable
returns-clause-readable c = accepted_readable

pub returns-clause-short : goal.returns-clause-short
returns-clause-short c = accepted_length

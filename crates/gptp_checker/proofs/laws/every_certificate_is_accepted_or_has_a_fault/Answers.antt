use Rattle.gptp_checker.proofs.EveryLemmas.{accepted_or_faulty}
use Rattle.gptp_checker.proofs.laws.every_certificate_is_accepted_or_has_a_fault.Goals as goal

pub returns : goal.returns
returns c = accepted_or_faulty

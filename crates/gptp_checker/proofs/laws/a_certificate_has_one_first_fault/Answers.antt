use Rattle.gptp_checker.proofs.LawLemmas.{one_fault}
use Rattle.gptp_checker.proofs.laws.a_certificate_has_one_first_fault.Goals as goal

pub returns : goal.returns
returns c = one_fault

use Rattle.gptp_checker.proofs.LawLemmas.{one_accepted}
use Rattle.gptp_checker.proofs.laws.one_certificate_is_accepted.Goals as goal

pub returns : goal.returns
returns c = one_accepted

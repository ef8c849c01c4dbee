use Rattle.gptp_certificate_text.proofs.LawLemmas.{one_certificate}
use Rattle.gptp_certificate_text.proofs.laws.a_text_is_one_certificates.Goals as goal

pub returns : goal.returns
returns c = one_certificate

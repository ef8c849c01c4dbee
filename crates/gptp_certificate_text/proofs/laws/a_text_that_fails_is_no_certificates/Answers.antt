use Rattle.gptp_certificate_text.proofs.LawLemmas.{no_certificate}
use Rattle.gptp_certificate_text.proofs.laws.a_text_that_fails_is_no_certificates.Goals as goal

pub returns : goal.returns
returns c = no_certificate

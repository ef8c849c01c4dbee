use Rattle.gptp_certificate_text.proofs.EveryLemmas.{read_or_faulty}
use Rattle.gptp_certificate_text.proofs.laws.every_text_is_a_certificates_or_fails.Goals as goal

pub returns : goal.returns
returns c = read_or_faulty

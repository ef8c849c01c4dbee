use Rattle.gptp_certificate_text.proofs.LawLemmas.{one_part}
use Rattle.gptp_certificate_text.proofs.laws.a_text_fails_at_one_place.Goals as goal

pub returns : goal.returns
returns c = one_part

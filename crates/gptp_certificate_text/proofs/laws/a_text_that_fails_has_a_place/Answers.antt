use Rattle.gptp_certificate_text.proofs.EveryLemmas.{part_exists}
use Rattle.gptp_certificate_text.proofs.laws.a_text_that_fails_has_a_place.Goals as goal

pub returns : goal.returns
returns c = part_exists

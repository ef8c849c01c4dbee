use Rattle.gptp_reading.proofs.TellingLemmas.{reading_is_exact}
use Rattle.gptp_reading.proofs.laws.reading_is_exact.Goals as goal

pub returns : goal.returns
returns g c = λ k. reading_is_exact k g.C.Coding.says

use Rattle.gptp_error_laws.proofs.HopLemmas.{hop_keeps}
use Rattle.gptp_error_laws.proofs.laws.hop_keeps.Goals as goal

pub returns : goal.returns
returns c = hop_keeps

use Rattle.gptp_theorem.proofs.OctetLemmas.{documents_playable}
use Rattle.gptp_theorem.proofs.laws.documents_are_playable.Goals as goal

pub returns : goal.returns
returns c = documents_playable

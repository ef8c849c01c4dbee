use Rattle.gptp_invariants.proofs.WorldActEncodableLemmas.{initial_encodable}
use Rattle.gptp_invariants.proofs.choice_seen.networks_are_encodable.Goals as goal

pub returns : goal.returns
returns c = initial_encodable

use Rattle.gptp_invariants.proofs.WorldActEncodableLemmas.{starts_encodable}
use Rattle.gptp_invariants.proofs.choice_seen.starts_stay_encodable.Goals as goal

pub returns : goal.returns
returns c = starts_encodable

use Rattle.gptp_invariants.proofs.WorldActEncodableLemmas.{acts_encodable}
use Rattle.gptp_invariants.proofs.choice_seen.acts_stay_encodable.Goals as goal

pub returns : goal.returns
returns c = acts_encodable

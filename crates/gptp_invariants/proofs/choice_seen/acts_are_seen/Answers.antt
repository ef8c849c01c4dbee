use Rattle.gptp_invariants.proofs.ChoiceSeenActLemmas.{acts_seen}
use Rattle.gptp_invariants.proofs.choice_seen.acts_are_seen.Goals as goal

pub returns : goal.returns
returns c = acts_seen

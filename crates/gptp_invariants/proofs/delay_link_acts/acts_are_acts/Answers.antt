use Rattle.gptp_invariants.proofs.DelayLinkActLemmas.{acts_seen}
use Rattle.gptp_invariants.proofs.delay_link_acts.acts_are_acts.Goals as goal

pub returns : goal.returns
returns c = acts_seen

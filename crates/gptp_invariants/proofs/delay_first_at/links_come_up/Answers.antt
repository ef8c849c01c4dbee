use Rattle.gptp_invariants.proofs.DelayFirstUpLemmas.{link_up_first}
use Rattle.gptp_invariants.proofs.delay_first_at.links_come_up.Goals as goal

pub returns : goal.returns
returns c = link_up_first

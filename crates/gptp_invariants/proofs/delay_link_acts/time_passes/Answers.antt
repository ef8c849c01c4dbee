use Rattle.gptp_invariants.proofs.DelayLinkActLemmas.{passes_seen}
use Rattle.gptp_invariants.proofs.delay_link_acts.time_passes.Goals as goal

pub returns : goal.returns
returns c = passes_seen

use Rattle.gptp_invariants.proofs.DelayLinkStandLemmas.{links_seen}
use Rattle.gptp_invariants.proofs.delay_link_worlds.links_are_seen.Goals as goal

pub returns : goal.returns
returns c = links_seen

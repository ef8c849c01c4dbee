use Rattle.gptp_invariants.proofs.DelayLinkFactLemmas.{links_fresh}
use Rattle.gptp_invariants.proofs.delay_link_facts.links_are_fresh.Goals as goal

pub returns : goal.returns
returns c = links_fresh

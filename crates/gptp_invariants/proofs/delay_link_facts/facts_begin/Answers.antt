use Rattle.gptp_invariants.proofs.DelayLinkFactLemmas.{facts_begin}
use Rattle.gptp_invariants.proofs.delay_link_facts.facts_begin.Goals as goal

pub returns : goal.returns
returns c = facts_begin

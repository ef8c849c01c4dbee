use Rattle.gptp_invariants.proofs.DelayLinkFactLemmas.{nothing_late}
use Rattle.gptp_invariants.proofs.delay_link_facts.nothing_is_late.Goals as goal

pub returns : goal.returns
returns c = nothing_late

use Rattle.gptp_pdelay.proofs.GoodLinkLemmas.{good_link_by_elapsed}
use Rattle.gptp_pdelay.proofs.laws.good_link_by_elapsed.Goals as goal

pub returns : goal.returns
returns c = good_link_by_elapsed

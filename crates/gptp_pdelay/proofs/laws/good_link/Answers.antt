use Rattle.gptp_pdelay.proofs.GoodLinkLemmas.{good_link}
use Rattle.gptp_pdelay.proofs.laws.good_link.Goals as goal

pub returns : goal.returns
returns c = good_link

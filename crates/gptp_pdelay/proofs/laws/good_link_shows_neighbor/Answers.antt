use Rattle.gptp_pdelay.proofs.GoodLinkLemmas.{good_link_shows_neighbor}
use Rattle.gptp_pdelay.proofs.laws.good_link_shows_neighbor.Goals as goal

pub returns : goal.returns
returns c = good_link_shows_neighbor

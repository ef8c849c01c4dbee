use Rattle.gptp_invariants.proofs.WorldLinkUpNewsLemmas.{link_up_news}
use Rattle.gptp_invariants.proofs.world_news.link_up_is_news.Goals as goal

pub returns : goal.returns
returns c = link_up_news

use Rattle.gptp_invariants.proofs.WorldNewsActLemmas.{gain_news}
use Rattle.gptp_invariants.proofs.world_news.gains_are_news.Goals as goal

pub returns : goal.returns
returns c = gain_news

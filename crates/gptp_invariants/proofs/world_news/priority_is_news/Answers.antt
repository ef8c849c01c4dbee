use Rattle.gptp_invariants.proofs.WorldNewsActLemmas.{priority_news}
use Rattle.gptp_invariants.proofs.world_news.priority_is_news.Goals as goal

pub returns : goal.returns
returns c = priority_news

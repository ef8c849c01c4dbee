use Rattle.gptp_invariants.proofs.WorldStartNewsLemmas.{start_news}
use Rattle.gptp_invariants.proofs.world_news.start_is_news.Goals as goal

pub returns : goal.returns
returns g c = start_news g.F.Fate.answers

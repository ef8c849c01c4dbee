use Rattle.gptp_invariants.proofs.WorldNewsLemmas.{news_worlds_settle, news_worlds_settle_in_turn}
use Rattle.gptp_invariants.proofs.world_news.news_worlds_settle.Goals as goal

pub returns-clause-at_once : goal.returns-clause-at_once
returns-clause-at_once c = news_worlds_settle

pub returns-clause-in_turn : goal.returns-clause-in_turn
returns-clause-in_turn c = news_worlds_settle_in_turn

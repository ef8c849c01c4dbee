use Rattle.gptp_invariants.proofs.WorldNewsLemmas.{news_are_kept, news_begin, news_go_on}
use Rattle.gptp_invariants.proofs.world_news.news_go_on.Goals as goal

pub returns-clause-begins : goal.returns-clause-begins
returns-clause-begins c = news_begin

pub returns-clause-acts : goal.returns-clause-acts
returns-clause-acts c = news_are_kept

pub returns-clause-later : goal.returns-clause-later
returns-clause-later c = news_go_on

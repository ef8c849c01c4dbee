use Rattle.gptp_invariants.proofs.WorldNewsActLemmas.{news_done, ready_later, unanswered_silent, watched_ready}
use Rattle.gptp_invariants.proofs.world_news.news_follow.Goals as goal

pub returns-clause-done : goal.returns-clause-done
returns-clause-done g c = news_done g.F.Fate.answers

pub returns-clause-rest : goal.returns-clause-rest
returns-clause-rest g c = watched_ready

pub returns-clause-silent : goal.returns-clause-silent
returns-clause-silent g c = unanswered_silent

pub returns-clause-later : goal.returns-clause-later
returns-clause-later g c = ready_later

use Rattle.gptp_invariants.proofs.WorldNewsCourseLemmas.{gain_settles, link_up_settles, news_advance, begun_settles}
use Rattle.gptp_invariants.proofs.world_news.news_settle_soon.Goals as goal

pub returns-clause-course : goal.returns-clause-course
returns-clause-course g c = news_advance g.F.Fate.answers

pub returns-clause-start : goal.returns-clause-start
returns-clause-start g c = begun_settles g.F.Fate.answers

pub returns-clause-link_up : goal.returns-clause-link_up
returns-clause-link_up g c = link_up_settles g.F.Fate.answers

pub returns-clause-gain : goal.returns-clause-gain
returns-clause-gain g c = gain_settles g.F.Fate.answers

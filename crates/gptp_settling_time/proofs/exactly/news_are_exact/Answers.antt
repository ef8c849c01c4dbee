use Rattle.gptp_settling_time.proofs.ExactlyLemmas.{gains_are_exact, links_up_are_exact, news_are_exact, starts_are_exact}
use Rattle.gptp_settling_time.proofs.exactly.news_are_exact.Goals as goal

pub returns-clause-news : goal.returns-clause-news
returns-clause-news g c = news_are_exact g.F.Fate.answers

pub returns-clause-start : goal.returns-clause-start
returns-clause-start g c = starts_are_exact g.F.Fate.answers

pub returns-clause-link_up : goal.returns-clause-link_up
returns-clause-link_up g c = links_up_are_exact g.F.Fate.answers

pub returns-clause-gain : goal.returns-clause-gain
returns-clause-gain g c = gains_are_exact g.F.Fate.answers

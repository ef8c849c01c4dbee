use Rattle.gptp_bmca_machine.proofs.NewsLemmas.{news_settle, news_become_whole}
use Rattle.gptp_bmca_machine.proofs.sound.news_settle.Goals as goal

pub returns-clause-settle : goal.returns-clause-settle
returns-clause-settle g c = λ before n w ws net. news_settle g.C.Coding.says n net before w ws

pub returns-clause-whole : goal.returns-clause-whole
returns-clause-whole g c = λ before n w ws net near. news_become_whole g.C.Coding.says n net near before w ws

use Rattle.gptp_bmca_machine.proofs.RestingLemmas.{links_stay, news_from_rest, rest_follows}
use Rattle.gptp_bmca_machine.proofs.sound.news_from_rest.Goals as goal

pub returns-clause-stay : goal.returns-clause-stay
returns-clause-stay g c = λ n w d best v p u q net calm invariant late near leads.
    links_stay g.C.Coding.says n net w calm invariant late d best v p u q near leads

pub returns-clause-settle : goal.returns-clause-settle
returns-clause-settle g c = λ n n' w w' ws net net' finds.
    news_from_rest g.C.Coding.says n n' net net' w w' finds ws

pub returns-clause-rest : goal.returns-clause-rest
returns-clause-rest g c = λ n n' w w' ws net net' finds.
    rest_follows g.C.Coding.says n n' net net' w w' finds ws

use Rattle.gptp_bmca_machine.proofs.NewsLemmas.{rest_settles, start_settles}
use Rattle.gptp_bmca_machine.proofs.sound.rest_settles.Goals as goal

pub returns-clause-rest : goal.returns-clause-rest
returns-clause-rest g c = λ n w ws net. rest_settles g.C.Coding.says n net w ws

pub returns-clause-start : goal.returns-clause-start
returns-clause-start g c = λ n w ws net. start_settles g.C.Coding.says n net w ws

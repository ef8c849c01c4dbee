use Rattle.gptp_theorem.proofs.BeginLemmas.{begun_stands}
use Rattle.gptp_theorem.proofs.laws.worlds_begin_so.Goals as goal

pub returns : goal.returns
returns g c = begun_stands g.F.Fate.answers

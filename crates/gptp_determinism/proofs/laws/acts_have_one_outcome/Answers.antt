use Rattle.gptp_determinism.proofs.ActLemmas.{acts_once, acts_once_drawn}
use Rattle.gptp_determinism.proofs.laws.acts_have_one_outcome.Goals as goal

pub returns-clause-fate : goal.returns-clause-fate
returns-clause-fate g c = acts_once g.F.Fate.answers

pub returns-clause-draws : goal.returns-clause-draws
returns-clause-draws g c = acts_once_drawn

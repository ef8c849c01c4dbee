use Rattle.gptp_determinism.proofs.BeginExistLemmas.{acts_exist, beginnings_exist}
use Rattle.gptp_determinism.proofs.laws.acts_exist.Goals as goal

pub returns-clause-begins : goal.returns-clause-begins
returns-clause-begins g c = beginnings_exist g.F.Fate.answers

pub returns-clause-acts : goal.returns-clause-acts
returns-clause-acts g c = acts_exist g.F.Fate.answers

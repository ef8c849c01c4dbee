use Rattle.gptp_theorem.proofs.KeptLemmas.{acts_stand, time_stands}
use Rattle.gptp_theorem.proofs.laws.worlds_stay_so.Goals as goal

pub returns-clause-acts : goal.returns-clause-acts
returns-clause-acts c = acts_stand

pub returns-clause-time : goal.returns-clause-time
returns-clause-time c = time_stands

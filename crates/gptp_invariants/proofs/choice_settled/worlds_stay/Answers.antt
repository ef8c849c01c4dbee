use Rattle.gptp_invariants.proofs.WorldSettledLemmas.{acts_stay, done_stays, time_stays}
use Rattle.gptp_invariants.proofs.choice_settled.worlds_stay.Goals as goal

pub returns-clause-acts : goal.returns-clause-acts
returns-clause-acts g c = acts_stay

pub returns-clause-time : goal.returns-clause-time
returns-clause-time g c = time_stays

pub returns-clause-done : goal.returns-clause-done
returns-clause-done g c = done_stays g.F.Fate.answers

use Rattle.gptp_determinism.proofs.BesideActLemmas.{acts_beside}
use Rattle.gptp_determinism.proofs.BesideRunLemmas.{courses_beside}
use Rattle.gptp_determinism.proofs.BesideBeginLemmas.{begins_beside, next_beside, ready_beside}
use Rattle.gptp_determinism.proofs.laws.continues_leaves_worlds_alike.Goals as goal

pub returns-clause-begins : goal.returns-clause-begins
returns-clause-begins g c = begins_beside g.F.Fate.answers

pub returns-clause-ready : goal.returns-clause-ready
returns-clause-ready g c = ready_beside

pub returns-clause-next : goal.returns-clause-next
returns-clause-next g c = next_beside

pub returns-clause-acts : goal.returns-clause-acts
returns-clause-acts g c = acts_beside g.F.Fate.answers

pub returns-clause-courses : goal.returns-clause-courses
returns-clause-courses g c = courses_beside g.F.Fate.answers

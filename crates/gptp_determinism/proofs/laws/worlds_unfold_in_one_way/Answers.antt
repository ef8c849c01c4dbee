use Rattle.gptp_determinism.proofs.ActTraceLemmas.{courses_named, courses_once}
use Rattle.gptp_determinism.proofs.laws.worlds_unfold_in_one_way.Goals as goal

pub returns-clause-courses : goal.returns-clause-courses
returns-clause-courses g c = courses_once g.F.Fate.answers

pub returns-clause-named : goal.returns-clause-named
returns-clause-named g c = courses_named g.F.Fate.answers

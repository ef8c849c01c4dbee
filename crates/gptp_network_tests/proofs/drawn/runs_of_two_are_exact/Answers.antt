use Rattle.gptp_network_tests.proofs.ExactLemmas.{good_by_8, runs_exact}
use Rattle.gptp_network_tests.proofs.PairLemmas.{good_exactly}
use Rattle.gptp_network_tests.proofs.drawn.runs_of_two_are_exact.Goals as goal

pub returns-clause-exact : goal.returns-clause-exact
returns-clause-exact g c = runs_exact 0 0 good_exactly g.F.Fate.answers c.runs_are_exact.ensures

pub returns-clause-stamped : goal.returns-clause-stamped
returns-clause-stamped g c = runs_exact 8 4 good_by_8 g.F.Fate.answers c.runs_are_exact.ensures

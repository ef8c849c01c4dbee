use Rattle.gptp_network_tests.proofs.ReadingLemmas.{runs_read}
use Rattle.gptp_network_tests.proofs.readings.runs_of_two_read_exactly.Goals as goal

pub returns : goal.returns
returns g c = runs_read g.F.Fate.answers c.runs_read_exactly.ensures

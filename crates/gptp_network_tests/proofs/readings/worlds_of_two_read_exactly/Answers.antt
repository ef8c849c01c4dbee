use Rattle.gptp_network_tests.proofs.ReadingLemmas.{worlds_read}
use Rattle.gptp_network_tests.proofs.readings.worlds_of_two_read_exactly.Goals as goal

pub returns : goal.returns
returns g c = worlds_read g.F.Fate.answers c.worlds_read_exactly.ensures

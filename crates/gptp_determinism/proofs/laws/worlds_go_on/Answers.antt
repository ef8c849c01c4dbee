use Rattle.gptp_determinism.proofs.WayExistLemmas.{ways_exist}
use Rattle.gptp_determinism.proofs.laws.worlds_go_on.Goals as goal

pub returns : goal.returns
returns g c = ways_exist g.F.Fate.answers

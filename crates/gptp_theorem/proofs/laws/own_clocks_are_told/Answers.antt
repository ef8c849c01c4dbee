use Rattle.gptp_theorem.proofs.OwnClockLemmas.{own_told}
use Rattle.gptp_theorem.proofs.laws.own_clocks_are_told.Goals as goal

pub returns : goal.returns
returns c = own_told

use Rattle.gptp_invariants.proofs.WorldStandsLemmas.{stands_well}
use Rattle.gptp_invariants.proofs.choice_calm.stands_well.Goals as goal

pub returns : goal.returns
returns c = stands_well

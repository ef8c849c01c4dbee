use Rattle.gptp_invariants.proofs.DelayBeginLemmas.{first_measured}
use Rattle.gptp_invariants.proofs.DelayCapableKeptLemmas.{done_measured}
use Rattle.gptp_invariants.proofs.delay_capable.worlds_stay_measured.Goals as goal

pub returns-clause-network : goal.returns-clause-network
returns-clause-network g c = first_measured g.F.Fate.answers

pub returns-clause-done : goal.returns-clause-done
returns-clause-done g c = done_measured g.F.Fate.answers

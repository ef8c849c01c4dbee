use Rattle.gptp_system.proofs.ReachLemmas.{steps_reach}
use Rattle.gptp_system.proofs.laws.counts_what_it_sends.Goals as goal

pub returns : goal.returns
returns c = λ input now s s' sends answer k. (steps_reach input now s s' sends answer k).counts

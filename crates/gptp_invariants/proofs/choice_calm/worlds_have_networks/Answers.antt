use Rattle.gptp_invariants.proofs.ChoiceCalmLemmas.{network}
use Rattle.gptp_invariants.proofs.ChoiceCalmFactLemmas.{facts}
use Rattle.gptp_invariants.proofs.choice_calm.worlds_have_networks.Goals as goal

pub returns-clause-network : goal.returns-clause-network
returns-clause-network c = network

pub returns-clause-facts : goal.returns-clause-facts
returns-clause-facts c = facts

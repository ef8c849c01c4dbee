use Rattle.gptp_invariants.proofs.WorldBetweenLemmas.{acts_between, networks_between, starts_between}
use Rattle.gptp_invariants.proofs.choice_calm.links_are_between.Goals as goal

pub returns-clause-networks : goal.returns-clause-networks
returns-clause-networks c = networks_between

pub returns-clause-starts : goal.returns-clause-starts
returns-clause-starts c = starts_between

pub returns-clause-acts : goal.returns-clause-acts
returns-clause-acts c = acts_between

pub returns-clause-time : goal.returns-clause-time
returns-clause-time c = λ w time between. between

use Rattle.gptp_theorem.proofs.HeadlineLemmas.{at_once, by_neighbours, by_systems, of_a_network, worlds_settle}
use Rattle.gptp_theorem.proofs.headline.worlds_settle.Goals as goal

pub returns-clause-theorem : goal.returns-clause-theorem
returns-clause-theorem c = worlds_settle

pub returns-clause-at_once : goal.returns-clause-at_once
returns-clause-at_once c = at_once

pub returns-clause-systems : goal.returns-clause-systems
returns-clause-systems c = by_systems

pub returns-clause-neighbours : goal.returns-clause-neighbours
returns-clause-neighbours c = by_neighbours

pub returns-clause-parameters : goal.returns-clause-parameters
returns-clause-parameters c = of_a_network

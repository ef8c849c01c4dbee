use Rattle.gptp_theorem.proofs.CalmLemmas.{count_stands, quiet_stands, set_stands}
use Rattle.gptp_theorem.proofs.SyncPathLemmas.{paths_stand}
use Rattle.gptp_theorem.proofs.laws.calm_stands.Goals as goal

pub returns-clause-count : goal.returns-clause-count
returns-clause-count c = count_stands

pub returns-clause-paths : goal.returns-clause-paths
returns-clause-paths c = paths_stand

pub returns-clause-quiet : goal.returns-clause-quiet
returns-clause-quiet c = quiet_stands

pub returns-clause-set : goal.returns-clause-set
returns-clause-set c = set_stands

-- There are as many whole numbers as members.
use Rattle.std.proofs.Common.{rules}
use Rattle.gptp_network.proofs.IntervalLemmas.{other_length}
use Rattle.gptp_network.proofs.intervals.intervals_in.Goals as goal

pub returns-else-values-from-clause-refused : goal.returns-else-values-from-clause-refused
returns-else-values-from-clause-refused c = other_length c.args.ports c.args.values.now (search rules) (search rules)

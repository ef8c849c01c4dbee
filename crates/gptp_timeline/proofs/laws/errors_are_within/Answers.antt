use Rattle.gptp_timeline.proofs.WithinLemmas.{runs_are_within}
use Rattle.gptp_timeline.proofs.WithinLemmas as within
use Rattle.gptp_timeline.proofs.laws.errors_are_within.Goals as goal

pub returns-clause-stretches : goal.returns-clause-stretches
returns-clause-stretches g c = within.errors_are_within g.F.Fate.answers

pub returns-clause-runs : goal.returns-clause-runs
returns-clause-runs g c = runs_are_within g.F.Fate.answers

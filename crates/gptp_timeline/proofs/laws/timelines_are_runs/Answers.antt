use Rattle.gptp_timeline.proofs.UnfoldLemmas.{timeline_plays, timeline_unfolds}
use Rattle.gptp_timeline.proofs.laws.timelines_are_runs.Goals as goal

pub returns-clause-unfolds : goal.returns-clause-unfolds
returns-clause-unfolds g c = timeline_unfolds g.F.Fate.answers

pub returns-clause-ends : goal.returns-clause-ends
returns-clause-ends g c = timeline_plays g.F.Fate.answers

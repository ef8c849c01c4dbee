use Rattle.gptp_timeline.proofs.RightLemmas as right
use Rattle.gptp_timeline.proofs.laws.timelines_are_right.Goals as goal

pub returns : goal.returns
returns g c = right.timelines_are_right g.F.Fate.answers

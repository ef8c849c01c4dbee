use Rattle.gptp_timeline_laws.proofs.RightLemmas.{timelines_read_right}
use Rattle.gptp_timeline_laws.proofs.right.timelines_read_right.Goals as goal

pub returns : goal.returns
returns g c = timelines_read_right g.F.Fate.answers

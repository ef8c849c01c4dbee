use Rattle.gptp_timeline_laws.proofs.ExactLemmas as exact
use Rattle.gptp_timeline_laws.proofs.exact.timelines_read_exactly.Goals as goal

pub returns : goal.returns
returns g c = exact.timelines_read_exactly g.F.Fate.answers

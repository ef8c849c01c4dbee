use Rattle.gptp_timeline_laws.proofs.ReadSoonLemmas as soon
use Rattle.gptp_timeline_laws.proofs.exact_soon.timelines_bound_receipts_soon.Goals as goal

pub returns : goal.returns
returns g c = soon.timelines_bound_receipts_soon g.F.Fate.answers

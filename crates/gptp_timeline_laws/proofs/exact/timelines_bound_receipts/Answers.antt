use Rattle.gptp_timeline_laws.proofs.ReceiptLemmas as receipts
use Rattle.gptp_timeline_laws.proofs.exact.timelines_bound_receipts.Goals as goal

pub returns : goal.returns
returns g c = receipts.timelines_bound_receipts g.F.Fate.answers

use Rattle.gptp_faults.proofs.WithinLemmas.{lines_within}
use Rattle.gptp_faults.proofs.laws.lines_settle_within.Goals as goal

pub returns : goal.returns
returns c = lines_within

use Rattle.gptp_theorem.proofs.SnapshotLemmas.{snapshots_stand}
use Rattle.gptp_theorem.proofs.laws.snapshots_stand.Goals as goal

pub returns : goal.returns
returns c = snapshots_stand

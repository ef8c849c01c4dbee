use Rattle.gptp_theorem.proofs.ChangeLemmas.{changes_stand}
use Rattle.gptp_theorem.proofs.laws.changes_stand.Goals as goal

pub returns : goal.returns
returns c = changes_stand

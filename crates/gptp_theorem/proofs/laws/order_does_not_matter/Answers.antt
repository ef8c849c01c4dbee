use Rattle.gptp_theorem.proofs.AlikeLemmas.{same_choice}
use Rattle.gptp_theorem.proofs.laws.order_does_not_matter.Goals as goal

pub returns : goal.returns
returns c = same_choice

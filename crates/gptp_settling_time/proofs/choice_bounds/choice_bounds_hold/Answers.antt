use Rattle.gptp_settling_time.proofs.ChoiceBoundLemmas.{choice_bounds_hold}
use Rattle.gptp_settling_time.proofs.choice_bounds.choice_bounds_hold.Goals as goal

pub returns : goal.returns
returns g c = choice_bounds_hold g.F.Fate.answers

use Rattle.gptp_settling_time.proofs.ChoiceBoundLemmas.{choice_alone_bounds_hold}
use Rattle.gptp_settling_time.proofs.choice_bounds.choice_alone_bounds_hold.Goals as goal

pub returns : goal.returns
returns g c = choice_alone_bounds_hold g.F.Fate.answers

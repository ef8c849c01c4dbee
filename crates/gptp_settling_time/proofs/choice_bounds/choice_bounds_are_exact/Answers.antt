use Rattle.gptp_settling_time.proofs.ChoiceBoundLemmas.{choice_bounds_are_exact}
use Rattle.gptp_settling_time.proofs.choice_bounds.choice_bounds_are_exact.Goals as goal

pub returns : goal.returns
returns g c = choice_bounds_are_exact g.F.Fate.answers

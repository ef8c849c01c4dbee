use Rattle.gptp_how_soon_laws.proofs.ChoiceLemmas.{settlings_are_choice_bounds}
use Rattle.gptp_how_soon_laws.proofs.choice.settlings_are_choice_bounds.Goals as goal

pub returns : goal.returns
returns c = settlings_are_choice_bounds

use Rattle.gptp_invariants.proofs.ChoiceSettledLemmas.{settles, settles_by_paths}
use Rattle.gptp_invariants.proofs.choice_settled.worlds_settle.Goals as goal

pub returns-clause-systems : goal.returns-clause-systems
returns-clause-systems c = settles

pub returns-clause-by_paths : goal.returns-clause-by_paths
returns-clause-by_paths c =
    λ p m n w is capable holds bounded quiet. settles_by_paths p w is capable holds m bounded quiet n

use Rattle.gptp_checker.proofs.LawLemmas.{settled_has_none}
use Rattle.gptp_checker.proofs.laws.the_settled_choice_has_no_fault.Goals as goal

pub returns : goal.returns
returns c = settled_has_none

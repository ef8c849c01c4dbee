use Rattle.gptp_bmca_machine.proofs.TraceLemmas.{ends_in_path, clean_of_path}
use Rattle.gptp_bmca_machine.proofs.traces.clean_is_by_last_members.Goals as goal

pub returns : goal.returns
returns c = λ g m u trace. (ends_in_path g m u trace, clean_of_path g m u trace)

use Rattle.gptp_bmca_machine.proofs.CleanLemmas.{clean_begins, clean_kept}
use Rattle.gptp_bmca_machine.proofs.traces.traces_stay_clean.Goals as goal

pub returns-clause-begins : goal.returns-clause-begins
returns-clause-begins g c = clean_begins g.C.Coding.says

pub returns-clause-kept : goal.returns-clause-kept
returns-clause-kept g c = λ k w w' begun. clean_kept g.C.Coding.says k begun w w'

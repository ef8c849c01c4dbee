use Rattle.gptp_bmca_machine.proofs.SyncRunLemmas.{in_time, prompt}
use Rattle.gptp_bmca_machine.proofs.syncs.syncs_come_in_time.Goals as goal

pub returns-clause-in_time : goal.returns-clause-in_time
returns-clause-in_time g c = λ n w net is_prompt calm invariant facts.
    in_time g.C.Coding.says g.C.Coding.says_sync n net w calm invariant facts is_prompt

pub returns-clause-bounded : goal.returns-clause-bounded
returns-clause-bounded g c = prompt

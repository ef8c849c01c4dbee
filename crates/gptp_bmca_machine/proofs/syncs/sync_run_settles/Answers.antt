use Rattle.gptp_bmca_machine.proofs.SyncRunLemmas.{sync_run_settles}
use Rattle.gptp_bmca_machine.proofs.syncs.sync_run_settles.Goals as goal

pub returns : goal.returns
returns g c = λ n w ws net is_prompt late ready.
    sync_run_settles g.C.Coding.says g.C.Coding.says_sync n net is_prompt late ready w ws

use Rattle.gptp_sync_machine.proofs.RunLemmas.{runs_keep_inv}
use Rattle.gptp_sync_machine.proofs.follower.runs_keep_invariant.Goals as goal

pub returns : goal.returns
returns g c = λ k. runs_keep_inv k g.C.Coding.says

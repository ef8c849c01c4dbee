use Rattle.gptp_sync_machine.proofs.FollowerLemmas.{inv_kept}
use Rattle.gptp_sync_machine.proofs.follower.invariant_kept.Goals as goal

pub returns : goal.returns
returns g c = λ k. inv_kept k g.C.Coding.says

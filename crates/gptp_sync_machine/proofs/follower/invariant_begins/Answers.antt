use Rattle.gptp_sync_machine.proofs.FollowerLemmas.{inv_begins}
use Rattle.gptp_sync_machine.proofs.follower.invariant_begins.Goals as goal

pub returns : goal.returns
returns g c = λ k. inv_begins k g.C.Coding.says

use Rattle.gptp_sync_machine.proofs.FollowerLemmas.{inv_later}
use Rattle.gptp_sync_machine.proofs.follower.invariant_holds_later.Goals as goal

pub returns : goal.returns
returns g c = λ k. inv_later k g.C.Coding.says

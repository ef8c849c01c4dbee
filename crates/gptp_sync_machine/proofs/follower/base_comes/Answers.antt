use Rattle.gptp_sync_machine.proofs.FollowerLemmas.{base_comes}
use Rattle.gptp_sync_machine.proofs.follower.base_comes.Goals as goal

pub returns : goal.returns
returns g c = λ k ahead s none. base_comes k ahead none g.C.Coding.says s

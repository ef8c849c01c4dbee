use Rattle.gptp_sync_machine.proofs.TellingLemmas.{parent_tells_right}
use Rattle.gptp_sync_machine.proofs.follower.parent_tells_right.Goals as goal

pub returns : goal.returns
returns g c = λ k. parent_tells_right k g.C.Coding.says

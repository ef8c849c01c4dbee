use Rattle.gptp_sync_machine.proofs.TellingLemmas.{offset_is_exact}
use Rattle.gptp_sync_machine.proofs.follower.offset_is_exact.Goals as goal

pub returns : goal.returns
returns g c = λ k. offset_is_exact k g.C.Coding.says

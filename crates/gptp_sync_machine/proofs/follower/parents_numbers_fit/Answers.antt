use Rattle.gptp_sync_machine.proofs.TellingLemmas.{parents_numbers_fit}
use Rattle.gptp_sync_machine.proofs.follower.parents_numbers_fit.Goals as goal

pub returns : goal.returns
returns g c = λ k. parents_numbers_fit k g.C.Coding.says

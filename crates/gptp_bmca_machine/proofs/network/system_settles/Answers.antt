use Rattle.gptp_bmca_machine.proofs.SettledLemmas.{has_best, follows_best}
use Rattle.gptp_bmca_machine.proofs.network.system_settles.Goals as goal

pub returns : goal.returns
returns g c = λ n w i s d net calm invariant at live here near late. (
  has_best g.C.Coding.says n net w calm invariant i s at live d here near late,
  follows_best g.C.Coding.says n net w calm invariant i s at live d here near late,
)

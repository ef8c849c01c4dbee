use Rattle.gptp_bmca_machine.proofs.SettledLemmas.{settled_roles}
use Rattle.gptp_bmca_machine.proofs.network.ports_settle.Goals as goal

pub returns : goal.returns
returns g c = λ n w i s d net calm invariant at live here near late heard.
    settled_roles g.C.Coding.says n net w calm invariant i s at live d here near late heard

use Rattle.gptp_pdelay_machine.proofs.BoundLemmas
use Rattle.gptp_pdelay_machine.proofs.bounds.bounds_kept.Goals as goal

pub returns : goal.returns
returns g c = λ k. BoundLemmas.bounds_kept k g.C.Coding.asks g.C.Coding.replies

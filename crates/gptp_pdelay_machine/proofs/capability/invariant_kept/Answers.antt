use Rattle.gptp_pdelay_machine.proofs.InvariantLemmas.{inv_kept}
use Rattle.gptp_pdelay_machine.proofs.capability.invariant_kept.Goals as goal

pub returns : goal.returns
returns g c = λ k. inv_kept k g.C.Coding.asks g.C.Coding.replies

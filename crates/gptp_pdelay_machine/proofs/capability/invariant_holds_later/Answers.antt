use Rattle.gptp_pdelay_machine.proofs.InvariantLemmas.{inv_later}
use Rattle.gptp_pdelay_machine.proofs.capability.invariant_holds_later.Goals as goal

pub returns : goal.returns
returns g c = λ k. inv_later k g.C.Coding.asks g.C.Coding.replies

use Rattle.gptp_pdelay_machine.proofs.InvariantLemmas.{inv_begins}
use Rattle.gptp_pdelay_machine.proofs.capability.invariant_begins.Goals as goal

pub returns : goal.returns
returns g c = λ k. inv_begins k g.C.Coding.asks g.C.Coding.replies

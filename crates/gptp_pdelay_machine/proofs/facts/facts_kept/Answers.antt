use Rattle.gptp_pdelay_machine.proofs.FactLemmas
use Rattle.gptp_pdelay_machine.proofs.facts.facts_kept.Goals as goal

pub returns : goal.returns
returns g c = λ k gone. FactLemmas.facts_kept k gone g.C.Coding.asks g.C.Coding.replies

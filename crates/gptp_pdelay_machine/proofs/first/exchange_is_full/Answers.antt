use Rattle.gptp_pdelay_machine.proofs.FirstLemmas.{exchange_full}
use Rattle.gptp_pdelay_machine.proofs.first.exchange_is_full.Goals as goal

pub returns : goal.returns
returns g c = λ k least. exchange_full k least g.C.Coding.asks g.C.Coding.replies

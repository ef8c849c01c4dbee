use Rattle.gptp_pdelay_machine.proofs.FirstLemmas.{window_full}
use Rattle.gptp_pdelay_machine.proofs.first.window_is_full.Goals as goal

pub returns : goal.returns
returns g c = λ k least. window_full k least g.C.Coding.asks g.C.Coding.replies

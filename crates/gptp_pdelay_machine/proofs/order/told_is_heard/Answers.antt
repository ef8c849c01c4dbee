use Rattle.gptp_pdelay_machine.proofs.OrderLemmas.{order_kept, told_heard}
use Rattle.gptp_pdelay_machine.proofs.order.told_is_heard.Goals as goal

pub returns-clause-kept : goal.returns-clause-kept
returns-clause-kept g c = λ k least gone first.
    order_kept k least g.C.Coding.asks g.C.Coding.replies g.T.Telling.tells first gone

pub returns-clause-heard : goal.returns-clause-heard
returns-clause-heard g c = λ k first. told_heard k 0 g.C.Coding.asks g.C.Coding.replies g.T.Telling.tells first

use Rattle.gptp_pdelay_machine.proofs.OrderLemmas.{not_before_kept, not_before_later, not_capable_before}
use Rattle.gptp_pdelay_machine.proofs.order.not_capable_before.Goals as goal

pub returns-clause-kept : goal.returns-clause-kept
returns-clause-kept g c = λ k least gone first. not_before_kept k least g.C.Coding.asks g.C.Coding.replies first gone

pub returns-clause-later : goal.returns-clause-later
returns-clause-later g c = λ k least first. not_before_later k least g.C.Coding.asks g.C.Coding.replies first

pub returns-clause-before : goal.returns-clause-before
returns-clause-before g c = λ k least gone first.
    not_capable_before k least g.C.Coding.asks g.C.Coding.replies first gone

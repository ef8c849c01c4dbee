use Rattle.gptp_queue.proofs.BothLemmas.{sweeps_other}
use Rattle.gptp_queue.proofs.order.Order.reserve.Goals as goal

pub returns-clause-swept : goal.returns-clause-swept
returns-clause-swept c =
    let o = c.self.inside in
    rw (← c.self.view_is, c.grow-grown.ensures.ring)
    (sweeps_other c.args.table.now.entries o.ring.parts o.far.parts c.grow-grown.new.far.parts c.grow-grown.ensures.swept)

use Rattle.std.proofs.Common.{◌∙◌}
use Rattle.gptp_queue.proofs.BothLemmas.{adds_other}
use Rattle.gptp_queue.proofs.order.Order.put.Goals as goal

pub returns-then-not-put_near-clause-put : goal.returns-then-not-put_near-clause-put
returns-then-not-put_near-clause-put c =
    let o = c.self.inside in
    let same = c.put_near.ensures.refused c.if-not-put_near.true in
    rw (← (c.self.view_is ∙ same))
    (adds_other o.ring.parts o.far.parts c.put.new.self.parts c.args.entry c.put.ensures.put)

use Rattle.std.proofs.Common.{◌∙◌, sym}
use Rattle.gptp_queue.proofs.BothLemmas.{least_if, least_unless}
use Rattle.gptp_queue.proofs.order.Order.first.Goals as goal

pub returns-then-comes_first-clause-least : goal.returns-then-comes_first-clause-least
returns-then-comes_first-clause-least c =
    let o = c.self.inside in
    rw (← c.self.view_is)
    (least_if o.ring.parts o.far.parts c.first-near.result c.first-far.result c.first-near.ensures.least
    c.first-far.ensures.least (sym c.comes_first.ensures ∙ c.if-comes_first.true))

pub returns-else-comes_first-clause-least : goal.returns-else-comes_first-clause-least
returns-else-comes_first-clause-least c =
    let o = c.self.inside in
    rw (← c.self.view_is)
    (least_unless o.ring.parts o.far.parts c.first-near.result c.first-far.result c.first-near.ensures.least
    c.first-far.ensures.least (sym c.comes_first.ensures ∙ c.if-comes_first.false))

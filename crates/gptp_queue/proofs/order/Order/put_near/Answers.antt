use Rattle.gptp_queue.proofs.BothLemmas.{adds_one, in_one}
use Rattle.gptp_queue.proofs.order.Order.put_near.Goals as goal

pub put-requires : goal.put-requires
put-requires c = λ e there.
    let o = c.self.inside in let highest = rw (← c.self.view_is) at c.requires in
    highest e (in_one o.ring.parts o.far.parts e there)

pub returns-then-kinds-kind-clause-put : goal.returns-then-kinds-kind-clause-put
returns-then-kinds-kind-clause-put c = λ yes.
    let o = c.self.inside in
    rw (← c.self.view_is)
    (adds_one o.ring.parts o.far.parts c.put.new.self.parts c.args.entry (c.put.ensures.put yes))

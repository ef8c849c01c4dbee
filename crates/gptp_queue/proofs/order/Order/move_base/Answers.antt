use Rattle.gptp_queue.proofs.BothLemmas.{in_one}
use Rattle.gptp_queue.proofs.order.Order.move_base.Goals as goal

pub move_base-requires : goal.move_base-requires
move_base-requires c = λ e there.
    let o = c.self.inside in let later = rw (← c.self.view_is) at c.requires in
    later e (in_one o.ring.parts o.far.parts e there)

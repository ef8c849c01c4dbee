use Rattle.gptp_traffic.proofs.PendingIndexLemmas.{times-timer}
use Rattle.gptp_traffic.proofs.pending.Pending.due.Goals as goal

pub returns : goal.returns
returns c =
    let p = c.self.inside in let are = c.self.invariant.0 in
    rw (c.time.ensures, c.timer_place.ensures, ← c.self.view_is)
    (times-timer p.systems p.links c.args.place c.args.timer (rw (← c.self.view_is) at c.requires) p.items.items
    p.queue.entries c.places_differ.ensures.differ are.known are.placed)

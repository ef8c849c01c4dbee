use Rattle.gptp_traffic.proofs.PendingIndexLemmas.{times-once}
use Rattle.gptp_traffic.proofs.pending.Pending.timers_run_once.Goals as goal

pub returns : goal.returns
returns c =
    let p = c.self.inside in let are = c.self.invariant.0 in
    rw (← c.self.view_is)
    (λ place timer known. times-once p.systems p.links place timer known p.items.items p.queue.entries
    c.places_differ.ensures.differ are.known are.placed)

use Rattle.slab.specs.Slab.{get}
use Rattle.gptp_chain.proofs.QueuesLemmas.{lent_there}
use Rattle.gptp_chain.proofs.queues.Queues.first.Goals as goal

pub first-requires : goal.first-requires
first-requires g c =
    let q = c.self.inside in
    c.self.invariant.each c.args.place c.index.result.now
    (lent_there (get q.nodes) q.chains.items c.args.place c.index.result.now (rw (← c.self.view_is) at c.requires)
    c.index.ensures)

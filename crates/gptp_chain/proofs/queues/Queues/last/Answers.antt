use Rattle.std.proofs.Common.{◌∙◌}
use Rattle.slab.specs.Slab.{get}
use Rattle.gptp_chain.proofs.QueuesLemmas.{lent_there, last_there}
use Rattle.gptp_chain.proofs.queues.Queues.last.Goals as goal

pub last-requires : goal.last-requires
last-requires g c =
    let q = c.self.inside in
    c.self.invariant.each c.args.place c.index.result.now
    (lent_there (get q.nodes) q.chains.items c.args.place c.index.result.now (rw (← c.self.view_is) at c.requires)
    c.index.ensures)

pub returns : goal.returns
returns g c =
    let q = c.self.inside in
    let there = lent_there (get q.nodes) q.chains.items c.args.place c.index.result.now
    (rw (← c.self.view_is) at c.requires) c.index.ensures in
    rw (← c.self.view_is)
    (c.last.ensures ∙ last_there q.nodes q.chains.items c.args.place c.index.result.now c.self.invariant there)

use Rattle.std.proofs.Common.{◌-◌, drop, ap, refl, sym, arith}
use Rattle.slab.specs.Slab.{get, slab_len}
use Rattle.gptp_chain.proofs.QueuesLemmas.{all-changed, lent_there, state-changed}
use Rattle.gptp_chain.proofs.queues.Queues.pop.Goals as goal

pub pop-requires-clause-chained : goal.pop-requires-clause-chained
pop-requires-clause-chained g c =
    let q = c.self.inside in
    c.self.invariant.each c.args.place c.index_mut.result.now
    (lent_there (get q.nodes) q.chains.items c.args.place c.index_mut.result.now
    (rw (← c.self.view_is) at c.requires) c.index_mut.ensures.value)

pub invariant_of-self : goal.invariant_of-self
invariant_of-self g c =
    let q = c.self.inside in let e = c.pop.ensures in
    let there = lent_there (get q.nodes) q.chains.items c.args.place c.index_mut.result.now
    (rw (← c.self.view_is) at c.requires) c.index_mut.ensures.value in
    all-changed q.nodes c.pop.new.nodes q.chains.items c.args.place c.index_mut.result.now c.pop.new.self
    c.self.invariant there e.others (omega (arith, e.len, e.count)) (omega (arith, e.len, e.capacity, c.self.invariant.fits))

pub returns-clause-rest : goal.returns-clause-rest
returns-clause-rest g c =
    let q = c.self.inside in let e = c.pop.ensures in
    let there = lent_there (get q.nodes) q.chains.items c.args.place c.index_mut.result.now
    (rw (← c.self.view_is) at c.requires) c.index_mut.ensures.value in
    rw (← c.self.view_is)
    (state-changed q.nodes c.pop.new.nodes q.chains.items c.args.place c.index_mut.result.now c.pop.new.self
    c.self.invariant there e.others (drop 1) (c.pop.new.nodes.capacity - slab_len c.pop.new.nodes)
    (ap (drop 1) (sym e.values)) refl)

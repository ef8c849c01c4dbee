use Rattle.std.proofs.Common.{◌-◌, ◌++◌, ◌∷◌, [], arith}
use Rattle.slab.specs.Slab.{get, slab_len}
use Rattle.gptp_chain.proofs.QueuesLemmas.{all-changed, lent_there, state-changed}
use Rattle.gptp_chain.proofs.queues.Queues.push.Goals as goal

pub push-requires-clause-chained : goal.push-requires-clause-chained
push-requires-clause-chained g c =
    let q = c.self.inside in
    c.self.invariant.each c.args.place c.index_mut.result.now
    (lent_there (get q.nodes) q.chains.items c.args.place c.index_mut.result.now
    (rw (← c.self.view_is) at c.requires.place) c.index_mut.ensures.value)

pub invariant_of-self : goal.invariant_of-self
invariant_of-self g c =
    let q = c.self.inside in let e = c.push.ensures in
    let room = rw (← c.self.view_is) at c.requires.room in
    let there = lent_there (get q.nodes) q.chains.items c.args.place c.index_mut.result.now
    (rw (← c.self.view_is) at c.requires.place) c.index_mut.ensures.value in
    all-changed q.nodes c.push.new.nodes q.chains.items c.args.place c.index_mut.result.now c.push.new.self
    c.self.invariant there e.others (omega (arith, e.len, e.count)) (omega (arith, e.len, e.capacity, room))

pub returns : goal.returns
returns g c =
    let q = c.self.inside in let e = c.push.ensures in
    let there = lent_there (get q.nodes) q.chains.items c.args.place c.index_mut.result.now
    (rw (← c.self.view_is) at c.requires.place) c.index_mut.ensures.value in
    rw (← c.self.view_is)
    (state-changed q.nodes c.push.new.nodes q.chains.items c.args.place c.index_mut.result.now c.push.new.self
    c.self.invariant there e.others (λ values. values ++ c.args.value ∷ []) (q.nodes.capacity - slab_len q.nodes - 1)
    e.values (omega (arith, e.len, e.capacity)))

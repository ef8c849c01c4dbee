use Rattle.std.proofs.Common.{◌≡◌, ap, arith}
use Rattle.slab.specs.Slab.{slab_len}
use Rattle.gptp_chain.proofs.QueuesLemmas.{chained-copied, queues-copied}
use Rattle.gptp_chain.proofs.queues.Queues.copy.Goals as goal

pub invariant_of-result : goal.invariant_of-result
invariant_of-result g c =
    let room = c.in_ok-reserve.ensures.room in
    let same : slab_len c.reserve.new.self ≡ slab_len c.in_ok-nodes.nodes = ap slab_len c.reserve.ensures.rest_kept in
    rw (c.in_ok-chains.ensures.items, c.deref.ensures.value) (chained-copied g.T.Clone.is_clone c.requires c.self.inside.nodes c.in_ok-nodes.nodes
    c.reserve.new.self c.in_ok-nodes.ensures.cases c.reserve.ensures.rest_kept c.self.inside.chains.items
    c.self.invariant (omega (arith, room, same)))

pub returns-clause-queues : goal.returns-clause-queues
returns-clause-queues g c =
    rw (c.in_ok-chains.ensures.items, c.deref.ensures.value, ← c.self.view_is)
    (queues-copied g.T.Clone.is_clone c.requires c.self.inside.nodes c.in_ok-nodes.nodes c.reserve.new.self c.in_ok-nodes.ensures.cases
    c.reserve.ensures.rest_kept c.self.inside.chains.items)

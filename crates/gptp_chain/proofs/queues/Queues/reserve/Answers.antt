use Rattle.gptp_chain.proofs.QueuesLemmas.{chained-roomy}
use Rattle.gptp_chain.proofs.queues.Queues.reserve.Goals as goal

pub invariant_of-self : goal.invariant_of-self
invariant_of-self g c =
    let e = c.reserve.ensures in
    chained-roomy c.self.inside.nodes c.reserve.new.self c.self.inside.chains.items c.self.invariant e.rest_kept e.capacity

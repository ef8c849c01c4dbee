-- The first value is gone.
use Rattle.slab.specs.Slab.{get}
use Rattle.gptp_chain.proofs.ChainLemmas.{changes-taken, values-taken}
use Rattle.gptp_chain.proofs.chain.Chain.pop.Goals as goal

pub returns-clause-values : goal.returns-clause-values
returns-clause-values g c =
    let gone = c.remove-value.ensures in
    values-taken (get c.args.nodes.now) (get c.remove-value.new.self) c.args.self.now c.remove-value.result gone.value
    gone.updates.others c.requires.some c.requires.chained

pub returns-clause-others : goal.returns-clause-others
returns-clause-others g c =
    let gone = c.remove-value.ensures in
    changes-taken (get c.args.nodes.now) (get c.remove-value.new.self) c.args.self.now c.remove-value.result gone.value
    gone.updates.others c.requires.some c.requires.chained

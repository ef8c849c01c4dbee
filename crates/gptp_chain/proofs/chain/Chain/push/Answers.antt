-- The value is behind the others.
use Rattle.slab.specs.Slab.{get}
use Rattle.gptp_chain.proofs.ChainLemmas.{changes-pushed, values-pushed}
use Rattle.gptp_chain.proofs.chain.Chain.push.Goals as goal

pub returns-clause-values : goal.returns-clause-values
returns-clause-values g c =
    let new = c.insert_reserved-key.ensures in
    rw c.with_last.ensures
    (values-pushed (get c.args.nodes.now) (get c.insert_reserved-key.new.self) (get c.join.new.nodes) c.args.self.now
    c.insert_reserved-key.result _ new.was_vacant new.updates.changed new.updates.others c.join.ensures.joined
    c.requires.chained)

pub returns-clause-others : goal.returns-clause-others
returns-clause-others g c =
    let new = c.insert_reserved-key.ensures in
    rw c.with_last.ensures
    (changes-pushed (get c.args.nodes.now) (get c.insert_reserved-key.new.self) (get c.join.new.nodes) c.args.self.now
    c.insert_reserved-key.result _ new.was_vacant new.updates.changed new.updates.others c.join.ensures.joined
    c.requires.chained)

use Rattle.slab.specs.Slab.{get}
use Rattle.gptp_scheduler.proofs.ChainLemmas.{chained-pushed}
use Rattle.gptp_scheduler.proofs.chains.push_back.Goals as goal

pub returns-clause-chained : goal.returns-clause-chained
returns-clause-chained g c =
    let joined = rw c.get-ends.ensures at c.join_after.ensures.joined in
    let placed = rw c.get-ends.ensures at c.set_place.ensures.updates in
    rw (c.set.ensures, c.or-first.ensures, c.least_with_entry-least.ensures, c.get-ends.ensures)
    (chained-pushed (get c.args.nodes.now) c.args.slots.now c.requires.chained (get c.set_place.new.nodes)
    (get c.join_after.new.nodes) c.args.slot c.args.key c.requires.slot c.requires.next joined placed.changed
    placed.others)

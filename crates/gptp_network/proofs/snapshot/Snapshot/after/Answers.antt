-- What was taken stands after the events, and is a snapshot.
use Rattle.gptp_network.proofs.TakingLemmas.{tables}
use Rattle.gptp_network.proofs.snapshot.Snapshot.after.Goals as goal

pub invariant_of-result : goal.invariant_of-result
invariant_of-result c =
    let systems = c.in_ok-systems in
    let links = c.in_ok-links in
    let ends = c.in_ok-ends in
    tables c.args.network.now c.args.events.now systems.systems.items links.links.items systems.ensures
    (rw (← c.deref.ensures.value) links.ensures) ends.ends.items c.well_formed-2.ensures
    (rw (← c.deref-2.ensures.value) ends.ensures)

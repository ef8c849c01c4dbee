use Rattle.std.proofs.Common.{◌≡◌, Some, sym, ap, ◌∙◌, option_copied}
use Rattle.slab.specs.Slab.{get}
use Rattle.gptp_scheduler.proofs.ChainLemmas.{chained-unlinked, moves-unlinked, stands-within}
use Rattle.gptp_scheduler.proofs.chains.unlink.Goals as goal

pub returns-clause-chained : goal.returns-clause-chained
returns-clause-chained g c =
    let nodes = get c.args.nodes.now in
    let e = c.unwrap-node.result.now in
    let found : nodes c.args.key.place ≡ Some e = sym c.get.ensures ∙ ap option_copied c.unwrap-node.ensures in
    let placed = c.set_place.ensures.updates in
    rw (c.set.ensures, c.ends_without_entry.ensures, c.get-ends.ensures)
    (chained-unlinked nodes c.args.slots.now c.requires.chained (get c.set_place.new.nodes) (get c.join_after.new.nodes)
    (get c.join_before.new.nodes) c.args.key.place e found
    (stands-within nodes c.args.slots.now c.requires.chained c.args.key.place e found c.requires.stands)
    c.join_after.ensures.joined c.join_before.ensures.joined placed.changed placed.others)

pub returns-clause-moved : goal.returns-clause-moved
returns-clause-moved g c =
    let nodes = get c.args.nodes.now in
    let e = c.unwrap-node.result.now in
    let found : nodes c.args.key.place ≡ Some e = sym c.get.ensures ∙ ap option_copied c.unwrap-node.ensures in
    let placed = c.set_place.ensures.updates in
    moves-unlinked nodes c.args.slots.now c.requires.chained (get c.set_place.new.nodes) (get c.join_after.new.nodes)
    (get c.join_before.new.nodes) c.args.key.place e found
    (stands-within nodes c.args.slots.now c.requires.chained c.args.key.place e found c.requires.stands)
    c.join_after.ensures.joined c.join_before.ensures.joined placed.changed placed.others

use Rattle.std.proofs.Common.{◌≡◌, None, Some, refl, sym}
use Rattle.slab.specs.Slab.{get}
use Rattle.gptp_scheduler.proofs.AgendaLemmas.{entry-filed-gone, entry-filed-node, entry-filed-other}
use Rattle.gptp_scheduler.proofs.FiledLemmas.{entry-nowhere}
use Rattle.gptp_scheduler.proofs.agenda.Agenda.item.Goals as goal

pub returns-in_err-key : goal.returns-in_err-key
returns-in_err-key g c =
    let none = entry-nowhere (get c.self.inside.nodes) c.self.inside.filed.items c.args.number
    (rw c.deref.ensures.value at c.in_err-key.ensures.nowhere) in
    rw (c.from_residual.ensures, ← c.self.view_is, none) refl

pub returns-in_err-node : goal.returns-in_err-node
returns-in_err-node g c =
    let found = rw c.deref.ensures.value at c.in_ok-key.ensures.found in
    let gone : get c.self.inside.nodes c.in_ok-key.key.place ≡ None = sym c.in_err-node.ensures in
    let none = entry-filed-gone (get c.self.inside.nodes) c.self.inside.base c.self.inside.next c.self.inside.slots
    c.self.inside.filed.items
    c.self.inside.first c.self.invariant.0 c.args.number c.in_ok-key.key.place found gone in
    rw (c.from_residual-in_err-node.ensures, ← c.self.view_is, none) refl

pub returns-then-node-number : goal.returns-then-node-number
returns-then-node-number g c =
    let found = rw c.deref.ensures.value at c.in_ok-key.ensures.found in
    let there : get c.self.inside.nodes c.in_ok-key.key.place ≡ Some c.in_ok-node.node.now = sym c.in_ok-node.ensures in
    let one = entry-filed-node (get c.self.inside.nodes) c.self.inside.base c.self.inside.next c.self.inside.slots
    c.self.inside.filed.items
    c.self.inside.first c.self.invariant.0 c.args.number c.in_ok-key.key.place c.in_ok-node.node.now found there
    c.if-node-number.true in
    rw (← c.self.view_is, one) refl

pub returns-else-node-number : goal.returns-else-node-number
returns-else-node-number g c =
    let found = rw c.deref.ensures.value at c.in_ok-key.ensures.found in
    let there : get c.self.inside.nodes c.in_ok-key.key.place ≡ Some c.in_ok-node.node.now = sym c.in_ok-node.ensures in
    let none = entry-filed-other (get c.self.inside.nodes) c.self.inside.base c.self.inside.next c.self.inside.slots
    c.self.inside.filed.items
    c.self.inside.first c.self.invariant.0 c.args.number c.in_ok-key.key.place c.in_ok-node.node.now found there
    c.if-node-number.false in
    rw (← c.self.view_is, none) refl

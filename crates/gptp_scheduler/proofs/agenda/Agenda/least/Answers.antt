use Rattle.std.proofs.Common.{◌≡◌, Some, sym}
use Rattle.slab.specs.Slab.{get}
use Rattle.gptp_scheduler.proofs.AgendaLemmas.{first-node, node-there}
use Rattle.gptp_scheduler.proofs.FiledLemmas.{listed-none}
use Rattle.gptp_scheduler.proofs.agenda.Agenda.least.Goals as goal

pub returns-in_err-self-clause-empty : goal.returns-in_err-self-clause-empty
returns-in_err-self-clause-empty g c =
    let none = rw c.in_err-self.was at c.self.invariant.0.first in
    rw (c.from_residual.ensures, ← c.self.view_is)
    (listed-none (get c.self.inside.nodes) none c.self.inside.filed.items)

pub returns-clause-first : goal.returns-clause-first
returns-clause-first g c =
    let least = rw c.in_ok-self.was at c.self.invariant.0.first in
    let there : get c.self.inside.nodes c.in_ok-self.field-0.place ≡ Some c.in_ok-node.node.now = sym
    c.in_ok-node.ensures in
    rw (← c.self.view_is)
    (first-node (get c.self.inside.nodes) c.self.inside.base c.self.inside.next c.self.inside.slots
    c.self.inside.filed.items
    c.self.inside.first c.self.invariant.0 c.in_ok-self.field-0.place c.in_ok-node.node.now least there)

pub returns-clause-item : goal.returns-clause-item
returns-clause-item g c =
    let there : get c.self.inside.nodes c.in_ok-self.field-0.place ≡ Some c.in_ok-node.node.now = sym
    c.in_ok-node.ensures in
    rw (← c.self.view_is)
    (node-there (get c.self.inside.nodes) c.self.inside.base c.self.inside.next c.self.inside.slots
    c.self.inside.filed.items
    c.self.inside.first c.self.invariant.0 c.in_ok-self.field-0.place c.in_ok-node.node.now there)

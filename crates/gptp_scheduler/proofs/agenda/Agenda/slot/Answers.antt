use Rattle.std.proofs.Common.{◌≡◌, None, Some, refl, sym, ap, subst, ◌∙◌, inl, inr, arith}
use Rattle.std.proofs.lemmas.Option.{same_Some}
use Rattle.slab.specs.Slab.{get}
use Rattle.gptp_scheduler.specs.Chain.{chain_entry, placed}
use Rattle.gptp_scheduler.specs.Places.{IsPlace}
use Rattle.gptp_scheduler.proofs.AgendaLemmas.{entry-filed-gone, entry-filed-node, entry-filed-other}
use Rattle.gptp_scheduler.proofs.FiledLemmas.{entry-nowhere}
use Rattle.gptp_scheduler.proofs.WheelLemmas.{held-node}
use Rattle.gptp_scheduler.proofs.agenda.Agenda.slot.Goals as goal

pub returns-in_err-key-clause-there : goal.returns-in_err-key-clause-there
returns-in_err-key-clause-there g c =
    let none = entry-nowhere (get c.self.inside.nodes) c.self.inside.filed.items c.args.number
    (rw c.deref.ensures.value at c.in_err-key.ensures.nowhere) in
    rw (c.from_residual.ensures, ← c.self.view_is, none) refl

pub returns-in_err-node-clause-there : goal.returns-in_err-node-clause-there
returns-in_err-node-clause-there g c =
    let found = rw c.deref.ensures.value at c.in_ok-key.ensures.found in
    let gone : get c.self.inside.nodes c.in_ok-key.key.place ≡ None = sym c.in_err-node.ensures in
    let none = entry-filed-gone (get c.self.inside.nodes) c.self.inside.base c.self.inside.next c.self.inside.slots
    c.self.inside.filed.items
    c.self.inside.first c.self.invariant.0 c.args.number c.in_ok-key.key.place found gone in
    rw (c.from_residual-in_err-node.ensures, ← c.self.view_is, none) refl

pub returns-then-node-number-clause-there : goal.returns-then-node-number-clause-there
returns-then-node-number-clause-there g c =
    let found = rw c.deref.ensures.value at c.in_ok-key.ensures.found in
    let there : get c.self.inside.nodes c.in_ok-key.key.place ≡ Some c.in_ok-node.node.now = sym c.in_ok-node.ensures in
    let one = entry-filed-node (get c.self.inside.nodes) c.self.inside.base c.self.inside.next c.self.inside.slots
    c.self.inside.filed.items
    c.self.inside.first c.self.invariant.0 c.args.number c.in_ok-key.key.place c.in_ok-node.node.now found there
    c.if-node-number.true in
    rw (← c.self.view_is, one) refl

pub returns-then-node-number-clause-stands : goal.returns-then-node-number-clause-stands
returns-then-node-number-clause-stands g c e is =
    let found = rw c.deref.ensures.value at c.in_ok-key.ensures.found in
    let there : get c.self.inside.nodes c.in_ok-key.key.place ≡ Some c.in_ok-node.node.now = sym c.in_ok-node.ensures in
    let one = entry-filed-node (get c.self.inside.nodes) c.self.inside.base c.self.inside.next c.self.inside.slots
    c.self.inside.filed.items
    c.self.inside.first c.self.invariant.0 c.args.number c.in_ok-key.key.place c.in_ok-node.node.now found there
    c.if-node-number.true in
    let entries = rw (← c.self.view_is) at is in
    let time = ap (λ x. x.time) (same_Some (chain_entry (placed c.in_ok-node.node.now)) e (sym one ∙ entries)) in
    rw (← c.self.view_is)
    (subst (λ t. IsPlace c.self.inside.base t c.in_ok-node.node.now.slot) time
    (c.self.invariant.0.wheel.places c.in_ok-key.key.place (placed c.in_ok-node.node.now)
    (held-node (get c.self.inside.nodes) c.in_ok-key.key.place c.in_ok-node.node.now there)))

pub returns-else-node-number-clause-there : goal.returns-else-node-number-clause-there
returns-else-node-number-clause-there g c =
    let found = rw c.deref.ensures.value at c.in_ok-key.ensures.found in
    let there : get c.self.inside.nodes c.in_ok-key.key.place ≡ Some c.in_ok-node.node.now = sym c.in_ok-node.ensures in
    let none = entry-filed-other (get c.self.inside.nodes) c.self.inside.base c.self.inside.next c.self.inside.slots
    c.self.inside.filed.items
    c.self.inside.first c.self.invariant.0 c.args.number c.in_ok-key.key.place c.in_ok-node.node.now found there
    c.if-node-number.false in
    rw (← c.self.view_is, none) refl

pub returns-then-node-number-clause-within : goal.returns-then-node-number-clause-within
returns-then-node-number-clause-within g c =
    let there : get c.self.inside.nodes c.in_ok-key.key.place ≡ Some c.in_ok-node.node.now = sym c.in_ok-node.ensures in
    elim (c.self.invariant.0.wheel.places c.in_ok-key.key.place (placed c.in_ok-node.node.now)
    (held-node (get c.self.inside.nodes) c.in_ok-key.key.place c.in_ok-node.node.now there)) [
      | inl levels ↦ let below = levels.within in omega (arith, below)
      | inr out ↦ let is = out.0 in omega (arith, is)
    ]

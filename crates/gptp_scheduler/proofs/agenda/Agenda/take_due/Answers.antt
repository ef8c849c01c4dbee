use Rattle.std.proofs.Common.{arith}
use Rattle.slab.specs.Slab.{get}
use Rattle.gptp_scheduler.specs.Pending.{entry}
use Rattle.gptp_scheduler.proofs.AgendaLemmas.{agenda-taken, entry-there, first-is, not-due, nothing-due, taken-listed, time-due}
use Rattle.gptp_scheduler.proofs.agenda.Agenda.take_due.Goals as goal

pub returns-in_err-key-clause-nothing : goal.returns-in_err-key-clause-nothing
returns-in_err-key-clause-nothing g c =
    let none = rw c.in_err-key.was at c.self.invariant.0.first in
    rw (c.from_residual.ensures, ← c.self.view_is)
    (nothing-due (get c.self.inside.nodes) c.self.inside.base c.self.inside.next c.self.inside.slots
    c.self.inside.filed.items
    c.self.inside.first c.self.invariant.0 c.args.now none)

pub returns-then-now-time_at-clause-nothing : goal.returns-then-now-time_at-clause-nothing
returns-then-now-time_at-clause-nothing g c =
    let least = rw c.in_ok-key.was at c.self.invariant.0.first in
    rw (← c.self.view_is)
    (not-due (get c.self.inside.nodes) c.self.inside.base c.self.inside.next c.self.inside.slots
    c.self.inside.filed.items
    c.self.inside.first c.self.invariant.0 c.in_ok-key.key.place c.args.now least
    (rw c.time_at.ensures at c.if-now-time_at.true))

pub take_earliest-node-requires-clause-earliest : goal.take_earliest-node-requires-clause-earliest
take_earliest-node-requires-clause-earliest g c = rw c.in_ok-key.was at c.self.invariant.0.first

pub earliest-self-inside-requires : goal.earliest-self-inside-requires
earliest-self-inside-requires g c = record {
  wheel = (c.take_earliest-node.new.base, c.take_earliest-node.ensures.wheel);
}

pub invariant_of-self : goal.invariant_of-self
invariant_of-self g c =
    let spare = c.self.invariant.1 in
    let in_slab = spare.in_slab in let made = spare.made in
    let taken = c.take_earliest-node.ensures in let chains = c.earliest-self-inside.ensures.chains in (
      agenda-taken (get c.self.inside.nodes) c.self.inside.base c.self.inside.next c.self.inside.slots
          c.self.inside.filed.items
          c.self.inside.first c.self.invariant.0 (get c.take_earliest-node.new.nodes) c.take_earliest-node.new.base
          c.earliest-self-inside.new.slots c.in_ok-key.key.place _ c.take_earliest-node.ensures.takes
          (c.earliest-self-inside.ensures.wheel c.take_earliest-node.new.base c.take_earliest-node.ensures.wheel)
          c.earliest-self-inside.result c.earliest-self-inside.ensures.earliest,
      record {
        in_slab = omega (arith, in_slab, taken.len, taken.capacity);
        in_filed = spare.in_filed;
        made = λ some. let is = made some in omega (arith, is, taken.chains, chains);
        numbers = spare.numbers;
      },
    )

pub returns-clause-first : goal.returns-clause-first
returns-clause-first g c =
    let least = rw c.in_ok-key.was at c.self.invariant.0.first in
    rw (← c.self.view_is)
    (first-is (get c.self.inside.nodes) c.self.inside.base c.self.inside.next c.self.inside.slots
    c.self.inside.filed.items
    c.self.inside.first c.self.invariant.0 c.in_ok-key.key.place
    (entry c.take_earliest-node.result.time c.take_earliest-node.result.number c.take_earliest-node.result.item) least
    c.take_earliest-node.ensures.takes.was)

pub returns-clause-due : goal.returns-clause-due
returns-clause-due g c =
    let time = time-due (get c.self.inside.nodes) c.self.inside.base c.self.inside.next c.self.inside.slots
    c.self.inside.filed.items
    c.self.inside.first c.self.invariant.0 c.in_ok-key.key.place
    (entry c.take_earliest-node.result.time c.take_earliest-node.result.number c.take_earliest-node.result.item)
    c.take_earliest-node.ensures.takes.was in
    let at = c.time_at.ensures in let due = c.if-now-time_at.false in omega (arith, time, at, due)

pub returns-clause-item : goal.returns-clause-item
returns-clause-item g c =
    rw (← c.self.view_is)
    (entry-there (get c.self.inside.nodes) c.self.inside.base c.self.inside.next c.self.inside.slots
    c.self.inside.filed.items
    c.self.inside.first c.self.invariant.0 c.in_ok-key.key.place
    (entry c.take_earliest-node.result.time c.take_earliest-node.result.number c.take_earliest-node.result.item)
    c.take_earliest-node.ensures.takes.was)

pub returns-clause-taken : goal.returns-clause-taken
returns-clause-taken g c =
    rw (← c.self.view_is)
    (taken-listed (get c.self.inside.nodes) c.self.inside.base c.self.inside.next c.self.inside.slots
    c.self.inside.filed.items
    c.self.inside.first c.self.invariant.0 (get c.take_earliest-node.new.nodes) c.take_earliest-node.new.base
    c.earliest-self-inside.new.slots c.in_ok-key.key.place _ c.take_earliest-node.ensures.takes
    (c.earliest-self-inside.ensures.wheel c.take_earliest-node.new.base c.take_earliest-node.ensures.wheel)
    c.earliest-self-inside.result c.earliest-self-inside.ensures.earliest)

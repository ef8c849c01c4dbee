use Rattle.std.proofs.Common.{◌≡◌, Some, refl, sym, ap, subst, ◌∙◌, arith}
use Rattle.slab.specs.Slab.{get}
use Rattle.gptp_scheduler.specs.Pending.{entry, entry_at, without_number}
use Rattle.gptp_scheduler.specs.Filed.{listed}
use Rattle.gptp_scheduler.proofs.AgendaLemmas.{agenda-taken, entry-filed, entry-there, first-stays, lives-held, lives-not, lives-some, stands-held, taken-listed}
use Rattle.gptp_scheduler.proofs.EntryLemmas.{absent}
use Rattle.gptp_scheduler.proofs.FiledLemmas.{entry-nowhere}
use Rattle.gptp_scheduler.proofs.agenda.Agenda.cancel.Goals as goal

pub returns-in_err-key-clause-item : goal.returns-in_err-key-clause-item
returns-in_err-key-clause-item g c =
    let none = entry-nowhere (get c.self.inside.nodes) c.self.inside.filed.items c.args.number
    (rw c.deref.ensures.value at c.in_err-key.ensures.nowhere) in
    rw (c.from_residual.ensures, ← c.self.view_is, none) refl

pub returns-in_err-key-clause-taken : goal.returns-in_err-key-clause-taken
returns-in_err-key-clause-taken g c =
    let none = entry-nowhere (get c.self.inside.nodes) c.self.inside.filed.items c.args.number
    (rw c.deref.ensures.value at c.in_err-key.ensures.nowhere) in
    rw (← c.self.view_is) (sym (absent (listed (get c.self.inside.nodes) c.self.inside.filed.items) c.args.number none))

pub returns-then-not-is_live-clause-item : goal.returns-then-not-is_live-clause-item
returns-then-not-is_live-clause-item g c =
    let found = rw c.deref.ensures.value at c.in_ok-key.ensures.found in
    let none = entry-filed (get c.self.inside.nodes) c.self.inside.base c.self.inside.next c.self.inside.slots
    c.self.inside.filed.items
    c.self.inside.first c.self.invariant.0 c.args.number c.in_ok-key.key.place found
    ∙ lives-not c.args.number _ (sym c.is_live.ensures ∙ c.if-not-is_live.true) in
    rw (← c.self.view_is, none) refl

pub returns-then-not-is_live-clause-taken : goal.returns-then-not-is_live-clause-taken
returns-then-not-is_live-clause-taken g c =
    let found = rw c.deref.ensures.value at c.in_ok-key.ensures.found in
    let none = entry-filed (get c.self.inside.nodes) c.self.inside.base c.self.inside.next c.self.inside.slots
    c.self.inside.filed.items
    c.self.inside.first c.self.invariant.0 c.args.number c.in_ok-key.key.place found
    ∙ lives-not c.args.number _ (sym c.is_live.ensures ∙ c.if-not-is_live.true) in
    rw (← c.self.view_is) (sym (absent (listed (get c.self.inside.nodes) c.self.inside.filed.items) c.args.number none))

pub take-node-requires-clause-stands : goal.take-node-requires-clause-stands
take-node-requires-clause-stands g c =
    let one = lives-some c.args.number _ (sym c.is_live.ensures ∙ c.if-not-is_live.false) in
    stands-held (get c.self.inside.nodes) c.self.inside.base c.self.inside.next c.self.inside.slots
    c.self.inside.filed.items
    c.self.inside.first c.self.invariant.0 c.in_ok-key.key.place one.0 one.1

pub earliest_left-self-inside-requires-clause-wheel : goal.earliest_left-self-inside-requires-clause-wheel
earliest_left-self-inside-requires-clause-wheel g c =
    (c.self.inside.base, c.take-node.ensures.wheel c.self.inside.base c.self.invariant.0.wheel)

pub earliest_left-self-inside-requires-clause-first : goal.earliest_left-self-inside-requires-clause-first
earliest_left-self-inside-requires-clause-first g c apart =
    first-stays (get c.self.inside.nodes) c.self.inside.base c.self.inside.next c.self.inside.slots
    c.self.inside.filed.items
    c.self.inside.first c.self.invariant.0 (get c.take-node.new.nodes) c.in_ok-key.key.place _
    c.take-node.ensures.takes apart

pub invariant_of-self : goal.invariant_of-self
invariant_of-self g c =
    let spare = c.self.invariant.1 in
    let in_slab = spare.in_slab in let made = spare.made in
    let taken = c.take-node.ensures in let chains = c.earliest_left-self-inside.ensures.chains in (
      agenda-taken (get c.self.inside.nodes) c.self.inside.base c.self.inside.next c.self.inside.slots
          c.self.inside.filed.items
          c.self.inside.first c.self.invariant.0 (get c.take-node.new.nodes) c.self.inside.base
          c.earliest_left-self-inside.new.slots
          c.in_ok-key.key.place _ c.take-node.ensures.takes
          (c.earliest_left-self-inside.ensures.wheel c.self.inside.base
          (c.take-node.ensures.wheel c.self.inside.base c.self.invariant.0.wheel))
          c.earliest_left-self-inside.result c.earliest_left-self-inside.ensures.earliest,
      record {
        in_slab = omega (arith, in_slab, taken.len, taken.capacity);
        in_filed = spare.in_filed;
        made = λ some. let is = made some in omega (arith, is, taken.chains, chains);
        numbers = spare.numbers;
      },
    )

pub returns-clause-item : goal.returns-clause-item
returns-clause-item g c =
    let e = entry c.take-node.result.time c.take-node.result.number c.take-node.result.item in
    let was = c.take-node.ensures.takes.was in
    let number = lives-held c.args.number _ e was (sym c.is_live.ensures ∙ c.if-not-is_live.false) in
    let one = subst (λ n. entry_at (listed (get c.self.inside.nodes) c.self.inside.filed.items) n ≡ Some e) number
    (entry-there (get c.self.inside.nodes) c.self.inside.base c.self.inside.next c.self.inside.slots
    c.self.inside.filed.items
    c.self.inside.first c.self.invariant.0 c.in_ok-key.key.place e was) in
    rw (← c.self.view_is, one) refl

pub returns-clause-taken : goal.returns-clause-taken
returns-clause-taken g c =
    let e = entry c.take-node.result.time c.take-node.result.number c.take-node.result.item in
    let was = c.take-node.ensures.takes.was in
    let number = lives-held c.args.number _ e was (sym c.is_live.ensures ∙ c.if-not-is_live.false) in
    rw (← c.self.view_is)
    (taken-listed (get c.self.inside.nodes) c.self.inside.base c.self.inside.next c.self.inside.slots
    c.self.inside.filed.items
    c.self.inside.first c.self.invariant.0 (get c.take-node.new.nodes) c.self.inside.base
    c.earliest_left-self-inside.new.slots
    c.in_ok-key.key.place e c.take-node.ensures.takes
    (c.earliest_left-self-inside.ensures.wheel c.self.inside.base
    (c.take-node.ensures.wheel c.self.inside.base c.self.invariant.0.wheel))
    c.earliest_left-self-inside.result c.earliest_left-self-inside.ensures.earliest
    ∙ ap (λ n. without_number n (listed (get c.self.inside.nodes) c.self.inside.filed.items)) number)

use Rattle.std.proofs.Common.{◌≡◌, ap, ◌∙◌, arith}
use Rattle.slab.specs.Slab.{get}
use Rattle.gptp_scheduler.specs.Filed.{listed}
use Rattle.gptp_scheduler.proofs.AgendaLemmas.{agenda-put, all-below, put-listed}
use Rattle.gptp_scheduler.proofs.agenda.Agenda.put.Goals as goal

pub put-key-requires-clause-above : goal.put-key-requires-clause-above
put-key-requires-clause-above g c = all-below (get c.self.inside.nodes) c.self.inside.base c.self.inside.next
    c.self.inside.slots c.self.inside.filed.items
    c.self.inside.first c.self.invariant.0

pub put-key-requires-clause-made : goal.put-key-requires-clause-made
put-key-requires-clause-made g c =
    let one = rw (← c.self.view_is) at c.in_ok-reserve.ensures.ok in c.self.invariant.1.made one

pub put-key-requires-clause-room : goal.put-key-requires-clause-room
put-key-requires-clause-room g c =
    let one = rw (← c.self.view_is) at c.in_ok-reserve.ensures.ok in
    let in_slab = c.self.invariant.1.in_slab in omega (arith, one, in_slab)

pub invariant_of-self : goal.invariant_of-self
invariant_of-self g c =
    let one = rw (← c.self.view_is) at c.in_ok-reserve.ensures.ok in
    let spare = c.self.invariant.1 in
    let in_slab = spare.in_slab in let in_filed = spare.in_filed in let numbers = spare.numbers in
    let made = spare.made one in
    let in_put = c.put-key.ensures in let pushed = c.push_reserved.ensures in
    rw (c.push_reserved.ensures.items, c.earlier_of.ensures) (
      agenda-put (get c.self.inside.nodes) c.self.inside.base c.self.inside.next c.self.inside.slots
          c.self.inside.filed.items
          c.self.inside.first c.self.invariant.0 (get c.put-key.new.nodes) c.put-key.new.slots c.put-key.result
          c.args.time c.args.item
          c.put-key.ensures.puts c.put-key.ensures.wheel,
      record {
        in_slab = omega (arith, one, in_slab, in_put.len, in_put.capacity);
        in_filed = omega (arith, one, in_filed, pushed.len, pushed.capacity);
        made = λ some. omega (arith, made, in_put.chains);
        numbers = omega (arith, one, numbers);
      },
    )

pub returns-clause-entries : goal.returns-clause-entries
returns-clause-entries g c =
    let same = c.self.view_is ∙ c.in_ok-reserve.ensures.kept in
    let entries : listed (get c.self.inside.nodes) c.self.inside.filed.items ≡ c.args.self.now.entries =
    ap (λ v. v.entries) same in
    let next : c.self.inside.next ≡ c.args.self.now.next = ap (λ v. v.next) same in
    rw (c.push_reserved.ensures.items, ← entries, ← next)
    (put-listed (get c.self.inside.nodes) c.self.inside.base c.self.inside.next c.self.inside.slots
    c.self.inside.filed.items
    c.self.inside.first c.self.invariant.0 (get c.put-key.new.nodes) c.put-key.new.slots c.put-key.result c.args.time
    c.args.item
    c.put-key.ensures.puts c.put-key.ensures.wheel)

use Rattle.std.proofs.Common.{arith}
use Rattle.slab.specs.Slab.{get}
use Rattle.gptp_scheduler.proofs.AgendaLemmas.{agenda-grown}
use Rattle.gptp_scheduler.proofs.agenda.Agenda.reserve.Goals as goal

pub invariant_of-self : goal.invariant_of-self
invariant_of-self g c =
    let spare = c.self.invariant.1 in
    let made = spare.made in let grows = c.grow.ensures.grows in (
      agenda-grown (get c.self.inside.nodes) c.self.inside.base c.self.inside.next c.self.inside.slots
          c.self.inside.filed.items
          c.self.inside.first c.self.invariant.0 c.grow.new.self c.grow.ensures.few c.grow.ensures.same grows,
      record {
        in_slab = spare.in_slab;
        in_filed = spare.in_filed;
        made = λ some. let is = made some in omega arith;
        numbers = spare.numbers;
      },
    )

pub invariant_of-self-in_err-reserve : goal.invariant_of-self-in_err-reserve
invariant_of-self-in_err-reserve g c =
    let spare = c.self.invariant.1 in
    let in_slab = spare.in_slab in let room = c.reserve.ensures.capacity in
    let made = spare.made in let grows = c.grow.ensures.grows in
    rw c.reserve.ensures.rest_kept (
      agenda-grown (get c.self.inside.nodes) c.self.inside.base c.self.inside.next c.self.inside.slots
          c.self.inside.filed.items
          c.self.inside.first c.self.invariant.0 c.grow.new.self c.grow.ensures.few c.grow.ensures.same grows,
      record {
        in_slab = omega arith;
        in_filed = spare.in_filed;
        made = λ some. let is = made some in omega arith;
        numbers = spare.numbers;
      },
    )

pub invariant_of-self-in_err-reserve-2 : goal.invariant_of-self-in_err-reserve-2
invariant_of-self-in_err-reserve-2 g c =
    let spare = c.self.invariant.1 in
    let in_slab = spare.in_slab in let room = c.reserve.ensures.capacity in
    let in_filed = spare.in_filed in let filed = c.reserve-then-self-additional.ensures.room in
    let fits = c.reserve-then-self-additional.new.filed.small in
    let len = c.reserve-then-self-additional.new.filed.ok in
    let made = spare.made in let grows = c.grow.ensures.grows in
    let kept = rw c.reserve.ensures.rest_kept at c.reserve-then-self-additional.ensures.filed in
    let grown = agenda-grown (get c.self.inside.nodes) c.self.inside.base c.self.inside.next c.self.inside.slots
    c.self.inside.filed.items
    c.self.inside.first c.self.invariant.0 c.grow.new.self c.grow.ensures.few c.grow.ensures.same grows in
    rw c.reserve.ensures.rest_kept (
      record { wheel = grown.wheel; filed = kept c.self.inside.next grown.filed; first = grown.first },
      record {
        in_slab = omega arith;
        in_filed = omega arith;
        made = λ some. let is = made some in omega arith;
        numbers = spare.numbers;
      },
    )

pub invariant_of-self-then-self-additional : goal.invariant_of-self-then-self-additional
invariant_of-self-then-self-additional g c =
    let grown = agenda-grown (get c.self.inside.nodes) c.self.inside.base c.self.inside.next c.self.inside.slots
    c.self.inside.filed.items
    c.self.inside.first c.self.invariant.0 c.grow.new.self c.grow.ensures.few c.grow.ensures.same
    c.grow.ensures.grows in
    let kept = rw c.reserve.ensures.rest_kept at c.reserve-then-self-additional.ensures.filed in
    let least = c.min-self-inside.ensures in let lesser = c.min.ensures in
    let len = rw c.reserve.ensures.rest_kept at c.len.ensures in
    let holds = rw c.reserve.ensures.rest_kept at c.capacity.ensures.holds_all in
    let capacity = c.capacity.ensures.value in
    let filed_len = c.len-then-self-additional.ensures in
    let filed_capacity = c.capacity-then-self-additional.ensures in
    let fits = c.reserve-then-self-additional.new.filed.small in
    let filed_ok = c.reserve-then-self-additional.new.filed.ok in
    let made = c.in_ok-grow.ensures.made in
    let next = c.self.ranges.1.0.1 in
    rw c.reserve.ensures.rest_kept (
      record { wheel = grown.wheel; filed = kept c.self.inside.next grown.filed; first = grown.first },
      record {
        in_slab = omega (arith, least, lesser, len, holds, capacity);
        in_filed = omega (arith, least, lesser, filed_len, filed_capacity, fits, filed_ok);
        made = λ some. omega (arith, made);
        numbers = omega (arith, least, next);
      },
    )

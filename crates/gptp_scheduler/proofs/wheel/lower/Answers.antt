use Rattle.std.proofs.Common.{◌∙◌, arith}
use Rattle.slab.specs.Slab.{get}
use Rattle.gptp_scheduler.proofs.WheelLemmas.{first-in, lowered, lowering-on, next-lowered, rank-lowered, same-lowered}
use Rattle.gptp_scheduler.proofs.wheel.lower.Goals as goal

pub unlink-requires-clause-stands : goal.unlink-requires-clause-stands
unlink-requires-clause-stands g c =
    let low = c.loop-key.invariant.lowering in
    let made = low.made in let within = low.within in
    first-in (get c.loop-key.nodes) c.loop-key.slots low.chained c.args.slot (omega arith) c.in-Some.key
    (rw c.get.ensures at c.in-Some.is)

pub push_back-requires-clause-next : goal.push_back-requires-clause-next
push_back-requires-clause-next g c =
    next-lowered (get c.loop-key.nodes) (get c.unlink.new.nodes) (get c.loop-key.nodes) c.args.base c.args.slot
    c.slot_of.result c.time_at-time.result c.loop-key.slots c.loop-key.slots c.loop-key.invariant.lowering c.in-Some.key
    (rw c.get.ensures at c.in-Some.is) c.time_at-time.ensures c.slot_of.ensures.place c.unlink.ensures.moved

pub loop-key-smaller : goal.loop-key-smaller
loop-key-smaller g c =
    rank-lowered (get c.loop-key.nodes) (get c.unlink.new.nodes) (get c.push_back.new.nodes) c.args.base c.args.slot
    c.slot_of.result c.time_at-time.result c.loop-key.slots c.push_back.new.slots c.loop-key.invariant.lowering
    c.in-Some.key (rw c.get.ensures at c.in-Some.is) c.time_at-time.ensures c.slot_of.ensures.place
    c.unlink.ensures.moved c.push_back.ensures.moved c.push_back.ensures.chained
    (c.push_back.ensures.len ∙ c.unlink.ensures.len)

pub loop-key-preserved : goal.loop-key-preserved
loop-key-preserved g c =
    let first = rw c.get.ensures at c.in-Some.is in
    let before = c.loop-key.invariant in
    let one = c.unlink.ensures.room in let two = c.push_back.ensures.room in let room = before.room in record {
      lowering = lowering-on (get c.loop-key.nodes) (get c.unlink.new.nodes) (get c.push_back.new.nodes) c.args.base
          c.args.slot c.slot_of.result c.time_at-time.result c.loop-key.slots c.push_back.new.slots before.lowering
          c.in-Some.key first c.time_at-time.ensures c.slot_of.ensures.place c.unlink.ensures.moved
          c.push_back.ensures.moved c.push_back.ensures.chained (c.push_back.ensures.len ∙ c.unlink.ensures.len);
      same = λ k. same-lowered (get c.loop-key.nodes) (get c.unlink.new.nodes) (get c.push_back.new.nodes) c.args.base
          c.args.slot c.slot_of.result c.time_at-time.result c.loop-key.slots c.push_back.new.slots before.lowering
          c.in-Some.key first c.time_at-time.ensures c.slot_of.ensures.place c.unlink.ensures.moved
          c.push_back.ensures.moved c.push_back.ensures.chained (c.push_back.ensures.len ∙ c.unlink.ensures.len) k
          ∙ before.same k;
      room = record {
        len = two.len ∙ one.len ∙ room.len;
        capacity = two.capacity ∙ one.capacity ∙ room.capacity;
      };
      chains = c.push_back.ensures.len ∙ c.unlink.ensures.len ∙ before.chains;
    }

pub returns-clause-wheel : goal.returns-clause-wheel
returns-clause-wheel g c =
    lowered (get c.loop-key.nodes) c.args.base c.args.slot c.loop-key.slots c.loop-key.invariant.lowering
    (rw c.get.ensures at c.in_default.is)

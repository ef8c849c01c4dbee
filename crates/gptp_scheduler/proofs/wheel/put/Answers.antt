use Rattle.std.proofs.Common.{refl, arith}
use Rattle.slab.specs.Slab.{get}
use Rattle.gptp_scheduler.proofs.WheelLemmas.{chained-put, next-put, puts-put, wheel-put}
use Rattle.gptp_scheduler.proofs.wheel.put.Goals as goal

pub push_back-requires-clause-chained : goal.push_back-requires-clause-chained
push_back-requires-clause-chained g c =
    let in_slab = c.insert_reserved-place.ensures in
    chained-put (get c.args.nodes.now) (get c.insert_reserved-place.new.self) c.args.slots.now
    c.insert_reserved-place.result c.requires.wheel.chained _ in_slab.was_vacant in_slab.updates.changed
    in_slab.updates.others refl c.requires.above c.ranges.number.fits

pub push_back-requires-clause-next : goal.push_back-requires-clause-next
push_back-requires-clause-next g c =
    let in_slab = c.insert_reserved-place.ensures in
    let within = c.slot_of.ensures.within in
    next-put (get c.args.nodes.now) (get c.insert_reserved-place.new.self) c.args.slots.now
    c.insert_reserved-place.result c.requires.wheel.chained _ in_slab.was_vacant in_slab.updates.changed
    in_slab.updates.others refl c.requires.above c.ranges.number.fits c.slot_of.result (omega arith)

pub returns-clause-wheel : goal.returns-clause-wheel
returns-clause-wheel g c =
    let in_slab = c.insert_reserved-place.ensures in
    let pushed = c.push_back.ensures in
    wheel-put (get c.args.nodes.now) (get c.insert_reserved-place.new.self) c.args.slots.now
    c.insert_reserved-place.result c.requires.wheel.chained _ in_slab.was_vacant in_slab.updates.changed
    in_slab.updates.others refl c.requires.above c.ranges.number.fits c.args.base c.slot_of.result
    (get c.push_back.new.nodes) c.push_back.new.slots c.requires.wheel c.requires.made pushed.len
    c.slot_of.ensures.place
    pushed.chained pushed.moved

pub returns-clause-puts : goal.returns-clause-puts
returns-clause-puts g c =
    let in_slab = c.insert_reserved-place.ensures in
    let pushed = c.push_back.ensures in
    puts-put (get c.args.nodes.now) (get c.insert_reserved-place.new.self) c.args.slots.now
    c.insert_reserved-place.result c.requires.wheel.chained _ in_slab.was_vacant in_slab.updates.changed
    in_slab.updates.others refl c.requires.above c.ranges.number.fits c.args.base c.slot_of.result
    (get c.push_back.new.nodes) c.push_back.new.slots c.requires.wheel c.requires.made pushed.len
    c.slot_of.ensures.place
    pushed.chained pushed.moved

use Rattle.slab.specs.Slab.{get}
use Rattle.gptp_scheduler.proofs.WheelLemmas.{takes-taken, wheel-taken}
use Rattle.gptp_scheduler.proofs.wheel.take.Goals as goal

pub returns-clause-wheel : goal.returns-clause-wheel
returns-clause-wheel g c =
    let out = c.unlink.ensures in let gone = c.remove.ensures in
    wheel-taken (get c.args.nodes.now) (get c.unlink.new.nodes) (get c.remove.new.self) c.args.slots.now
    c.unlink.new.slots c.args.key.place out.chained out.moved c.remove.result gone.value gone.updates.changed
    gone.updates.others out.len

pub returns-clause-takes : goal.returns-clause-takes
returns-clause-takes g c =
    let out = c.unlink.ensures in let gone = c.remove.ensures in
    takes-taken (get c.args.nodes.now) (get c.unlink.new.nodes) (get c.remove.new.self) c.args.slots.now
    c.unlink.new.slots c.args.key.place out.chained out.moved c.remove.result gone.value gone.updates.changed
    gone.updates.others out.len

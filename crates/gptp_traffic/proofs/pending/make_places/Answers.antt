use Rattle.gptp_traffic.proofs.PendingIndexLemmas.{makes-both}
use Rattle.gptp_traffic.proofs.pending.make_places.Goals as goal

pub loop-queue-preserved : goal.loop-queue-preserved
loop-queue-preserved c =
    makes-both c.args.queue.now c.loop-queue.queue c.make_place.new.queue c.args.items.now.items
    c.loop-queue.items.items c.make_place.new.items.items c.args.free.now.items c.loop-queue.free.items
    c.make_place.new.free.items c.loop-queue.invariant c.make_place.ensures.made

pub returns-in_err-make_place-clause-made : goal.returns-in_err-make_place-clause-made
returns-in_err-make_place-clause-made c =
    makes-both c.args.queue.now c.loop-queue.queue c.make_place.new.queue c.args.items.now.items
    c.loop-queue.items.items c.make_place.new.items.items c.args.free.now.items c.loop-queue.free.items
    c.make_place.new.free.items c.loop-queue.invariant c.make_place.ensures.made

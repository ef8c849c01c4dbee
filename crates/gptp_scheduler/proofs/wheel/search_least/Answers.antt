use Rattle.slab.specs.Slab.{get}
use Rattle.gptp_scheduler.proofs.EarliestLemmas.{search-end, search-smaller, search-start, search-step}
use Rattle.gptp_scheduler.proofs.wheel.search_least.Goals as goal

pub loop-next-init : goal.loop-next-init
loop-next-init g c =
    rw c.get-next.ensures
    (search-start (get c.args.nodes.now) c.args.slots.now c.requires.chained c.args.slot c.requires.slot)

pub loop-next-preserved : goal.loop-next-preserved
loop-next-preserved g c =
    rw (c.earlier_of.ensures, c.behind-next.ensures)
    (search-step (get c.args.nodes.now) c.args.slots.now c.requires.chained c.args.slot c.requires.slot
    c.loop-next.least c.in-Some.key (rw c.in-Some.is at c.loop-next.invariant))

pub loop-next-smaller : goal.loop-next-smaller
loop-next-smaller g c =
    rw (c.in-Some.is, c.behind-next.ensures)
    (search-smaller (get c.args.nodes.now) c.args.slots.now c.requires.chained c.args.slot c.requires.slot
    c.loop-next.least c.in-Some.key (rw c.in-Some.is at c.loop-next.invariant))

pub returns : goal.returns
returns g c = record {
  least = search-end (get c.args.nodes.now) c.args.slots.now c.requires.chained c.args.slot c.requires.slot
      c.loop-next.least (rw c.in_default.is at c.loop-next.invariant);
}

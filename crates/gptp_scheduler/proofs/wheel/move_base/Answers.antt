use Rattle.slab.specs.Slab.{get}
use Rattle.gptp_scheduler.proofs.WheelLemmas.{left-lowering, left-settled}
use Rattle.gptp_scheduler.proofs.wheel.move_base.Goals as goal

pub lower-requires : goal.lower-requires
lower-requires g c = record {
  lowering = left-lowering (get c.args.nodes.now) c.args.base c.args.time c.args.slot c.args.slots.now c.requires.left
      (c.if-slot-ge-LEVELS_END.false) (c.if-slot-ge-LEVEL_SLOTS.true);
}

pub returns-else-slot-ge-LEVEL_SLOTS-clause-wheel : goal.returns-else-slot-ge-LEVEL_SLOTS-clause-wheel
returns-else-slot-ge-LEVEL_SLOTS-clause-wheel g c =
    left-settled (get c.args.nodes.now) c.args.base c.args.time c.args.slot c.args.slots.now c.requires.left
    (c.if-slot-ge-LEVELS_END.false) (c.if-slot-ge-LEVEL_SLOTS.false)

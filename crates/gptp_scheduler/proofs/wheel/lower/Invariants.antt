use Rattle.std.proofs.Common.{◌≡◌, length}
use Rattle.slab.specs.Slab.{get}
use Rattle.gptp_scheduler.specs.Chain.{ends_at, numbers_in, SameEntryRoom}
use Rattle.gptp_scheduler.specs.Wheel.{rank, IsLowering, SameEntries}
use Rattle.gptp_scheduler.proofs.wheel.lower.Given as goal

-- what is left in the slot goes to lower ones
abbrev pub invariant-loop-key : goal.invariant-loop-key
invariant-loop-key g l = record {
  lowering : IsLowering (get l.nodes) l.base l.slot l.slots;
  same : SameEntries (get l.initial.nodes) (get l.nodes);
  room : SameEntryRoom l.initial.nodes l.nodes;
  chains : length l.slots ≡ length l.initial.slots;
}

abbrev pub decreases-loop-key : goal.decreases-loop-key
decreases-loop-key g l = rank (numbers_in (get l.nodes) l.slot) (ends_at l.slots l.slot).first

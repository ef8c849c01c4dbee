use Rattle.gptp_scheduler.proofs.SlotLemmas.{filled-none}
use Rattle.gptp_scheduler.proofs.slots.Slots.new.Goals as goal

pub invariant_of-result : goal.invariant_of-result
invariant_of-result c = rw c.new.ensures.items filled-none

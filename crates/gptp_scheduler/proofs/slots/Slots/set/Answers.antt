use Rattle.std.proofs.Common.{rules}
use Rattle.gptp_scheduler.proofs.SlotLemmas.{filled-clear, filled-set}
use Rattle.gptp_scheduler.proofs.slots.Slots.set.Goals as goal

pub invariant_of-self : goal.invariant_of-self
invariant_of-self c =
    filled-set _ _ c.args.slot c.args.ends c.if-slot-lt-LEVELS_END.true (rw (← c.self.view_is) at c.requires)
    c.self.invariant (search rules)

pub invariant_of-self-else-is_some : goal.invariant_of-self-else-is_some
invariant_of-self-else-is_some c =
    filled-clear _ _ c.args.slot c.args.ends c.if-slot-lt-LEVELS_END.true (rw (← c.self.view_is) at c.requires)
    c.self.invariant (search rules)

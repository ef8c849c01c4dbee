use Rattle.std.proofs.Common.{rules}
use Rattle.gptp_scheduler.proofs.SlotLemmas.{filled-same, resized}
use Rattle.gptp_scheduler.proofs.slots.Slots.grow.Goals as goal

pub invariant_of-self-2 : goal.invariant_of-self-2
invariant_of-self-2 c =
    let few = rw (← c.self.view_is) at c.requires.few in
    let made = c.resize.ensures.by_index in
    filled-same c.self.inside.filled c.self.inside.ends.items c.resize.new.self.items
    (resized c.self.inside.ends.items c.resize.new.self.items 2049 few (search rules) (search rules) (search rules))
    c.self.invariant

pub returns-clause-same : goal.returns-clause-same
returns-clause-same c =
    let few = rw (← c.self.view_is) at c.requires.few in
    let made = c.resize.ensures.by_index in
    rw (← c.self.view_is)
    (resized c.self.inside.ends.items c.resize.new.self.items 2049 few (search rules) (search rules) (search rules))

use Rattle.gptp_world.proofs.ViewLemmas.{next_placed}
use Rattle.gptp_world.proofs.world_core.WorldCore.next.Goals as goal

pub act_of-act-requires-clause-placed : goal.act_of-act-requires-clause-placed
act_of-act-requires-clause-placed c =
    next_placed c.self.inside.parts c.in-Some.at c.in-Some.item c.self.invariant.sound.agrees c.in-Some.ensures.next

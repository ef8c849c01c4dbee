use Rattle.gptp_world.proofs.FollowLemmas.{is_upcoming}
use Rattle.gptp_world.proofs.world_core.WorldCore.upcoming.Goals as goal

pub returns : goal.returns
returns c =
    rw (← c.self.view_is)
    (is_upcoming c.next.result c.self.inside.parts.net.traffic.net.pending c.next.ensures.next c.next.ensures.empty)

use Rattle.std.proofs.Common.{◌*◌}
use Rattle.gptp_traffic.proofs.FlightLemmas.{many-lanes}
use Rattle.gptp_traffic.proofs.pending.Pending.lanes_are_listed.Goals as goal

pub returns : goal.returns
returns c =
    let p = c.self.inside in
    rw (← c.self.view_is) (many-lanes p.flights (p.links * 2) c.self.invariant.0.queues_len).1

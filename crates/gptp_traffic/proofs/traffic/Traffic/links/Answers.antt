use Rattle.std.proofs.Common.{arith}
use Rattle.gptp_traffic.proofs.TrafficLemmas.{many-channels}
use Rattle.gptp_traffic.proofs.traffic.Traffic.links.Goals as goal

pub returns : goal.returns
returns c =
    let t = c.self.inside in let many = many-channels t.pending.frames 0 t.links.items in let len = c.len.ensures in
    let long = t.links.ok.0 in rw (← c.self.view_is) (omega (arith, many, len, long))

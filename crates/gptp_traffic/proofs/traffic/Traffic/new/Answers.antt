use Rattle.std.proofs.Common.{arith}
use Rattle.gptp_traffic.proofs.TrafficLemmas.{channels-idle}
use Rattle.gptp_traffic.proofs.traffic.Traffic.new.Goals as goal

pub invariant_of-result : goal.invariant_of-result
invariant_of-result c =
    let links = c.in_ok-pending.ensures.links in let len = c.len.ensures in let long = c.args.links.ok.0 in
    record { links = omega (arith, links, len, long); fit = c.requires.fit }

pub returns-clause-channels : goal.returns-clause-channels
returns-clause-channels c =
    channels-idle c.in_ok-pending.pending.frames 0 c.args.links.items c.in_ok-pending.ensures.frames

use Rattle.std.proofs.Common.{◌∙◌, map, ap}
use Rattle.gptp_traffic.specs.Traffic.{join_of, TrafficState}
use Rattle.gptp_world.proofs.net.Net.reserve.Goals as goal

pub returns-in_err-reserve-clause-net : goal.returns-in_err-reserve-clause-net
returns-in_err-reserve-clause-net c = record {
  joins = ap (λ (t : TrafficState). map join_of t.net.channels) c.reserve.ensures.kept ∙ c.requires.net.joins;
}

pub returns-clause-net : goal.returns-clause-net
returns-clause-net c = record {
  joins = ap (λ (t : TrafficState). map join_of t.net.channels) c.reserve.ensures.kept ∙ c.requires.net.joins;
}

use Rattle.std.proofs.Common.{◌∙◌, refl, map, ap, arith}
use Rattle.gptp_traffic.specs.Traffic.{join_of, TrafficState}
use Rattle.gptp_world.proofs.net.Net.take_timer.Goals as goal

pub returns-clause-net : goal.returns-clause-net
returns-clause-net c = record {
  joins = ap (λ (t : TrafficState). map join_of t.net.channels) c.stop.ensures.kept ∙ c.requires.net.joins;
}

pub returns-clause-uses : goal.returns-clause-uses
returns-clause-uses c =
    let e = c.stop.ensures in record {
      directory = refl;
      systems = ap (λ (t : TrafficState). t.systems) e.kept;
      entries = omega (arith, e.room);
      buffers = omega arith;
    }

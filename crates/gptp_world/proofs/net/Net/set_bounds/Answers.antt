use Rattle.std.proofs.Common.{refl, ap, ◌∙◌, arith}
use Rattle.gptp_lists.proofs.PlaceLemmas.{member_there}
use Rattle.gptp_traffic.specs.Traffic.{TrafficState}
use Rattle.gptp_world.proofs.net.Net.set_bounds.Goals as goal

pub returns-clause-net : goal.returns-clause-net
returns-clause-net c = record { joins = c.set_bounds.ensures.joins ∙ c.requires.net.joins }

pub returns-clause-bounds : goal.returns-clause-bounds
returns-clause-bounds c = λ channel here. ap (λ (t : TrafficState). t.net) (c.set_bounds.ensures.bounds channel here)

pub returns-clause-uses : goal.returns-clause-uses
returns-clause-uses c =
    let found = member_there c.args.self.now.traffic.net.channels c.args.link c.requires.link in
    let is = c.set_bounds.ensures.bounds found.0 found.1 in
    let room = ap (λ (t : TrafficState). t.room) is in record {
      directory = refl;
      systems = ap (λ (t : TrafficState). t.systems) is;
      entries = omega (arith, room);
      buffers = omega arith;
    }

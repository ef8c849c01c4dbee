use Rattle.gptp_model.specs.World.{port_id}
use Rattle.gptp_world.specs.WorldParts.{world_of}
use Rattle.gptp_world.proofs.ActTargetLemmas.{lane_joins}
use Rattle.gptp_world.proofs.world_parts.WorldParts.link_at.Goals as goal

pub returns-in-Some-clause-some : goal.returns-in-Some-clause-some
returns-in-Some-clause-some c =
    let lane = c.in-Some.lane in let at = c.in-Some.ensures.some in
    record {
      channel = at.channel;
      is = lane_joins (port_id c.args.clock c.args.port) (world_of c.args.self.now) lane at;
    }

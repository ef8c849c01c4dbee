use Rattle.std.proofs.Common.{◌∙◌, refl, arith}
use Rattle.gptp_world.proofs.net.Net.take_down.Goals as goal

pub returns-clause-net : goal.returns-clause-net
returns-clause-net c = record { joins = c.take_down.ensures.joins ∙ c.requires.net.joins }

pub returns-clause-uses : goal.returns-clause-uses
returns-clause-uses c =
    let e = c.take_down.ensures in record {
      directory = refl;
      systems = e.systems;
      entries = omega (arith, e.room);
      buffers = omega arith;
    }

use Rattle.std.proofs.Common.{refl, ap}
use Rattle.gptp_model.specs.World.{Net}
use Rattle.gptp_world.specs.WorldParts.{world_of}
use Rattle.gptp_world.proofs.TellingLemmas.{net_changes}
use Rattle.gptp_world.proofs.world_parts.WorldParts.set_link.Goals as goal

pub returns-clause-parts : goal.returns-clause-parts
returns-clause-parts c =
    let e = c.set_bounds.ensures in net_changes c.args.self.now c.set_bounds.new.self c.requires.parts e.net e.uses

pub returns-clause-set : goal.returns-clause-set
returns-clause-set c = λ channel here. (
  refl,
  ap (λ (n : Net). record (world_of c.args.self.now) { net = n }) (c.set_bounds.ensures.bounds channel here),
)

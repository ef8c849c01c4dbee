-- A network has its own seed.
use Rattle.std.proofs.Common.{ℕ, subst}
use Rattle.std.specs.Prelude.{IfOk}
use Rattle.gptp_model.specs.Course.{Begun}
use Rattle.gptp_scenario.specs.Network.{seeded}
use Rattle.gptp_world.proofs.world.World.new.Goals as goal

pub returns : goal.returns
returns g c =
    subst (λ (seed : ℕ). IfOk c.seeded.result
    (λ world. Begun g.F.Fate.answers (seeded seed c.args.network.now) c.args.fate world.fate world.world_core))
    c.seed.ensures c.seeded.ensures

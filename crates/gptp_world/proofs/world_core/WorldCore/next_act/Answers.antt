use Rattle.std.proofs.Common.{subst, sym}
use Rattle.gptp_model.specs.Pending.{IsNext}
use Rattle.gptp_model.specs.Views.{IsActOf}
use Rattle.gptp_model.specs.World.{WorldState}
use Rattle.gptp_world.proofs.ViewLemmas.{next_placed}
use Rattle.gptp_world.proofs.world_core.WorldCore.next_act.Goals as goal

pub act_of-requires-clause-placed : goal.act_of-requires-clause-placed
act_of-requires-clause-placed c =
    next_placed c.self.inside.parts c.args.time c.args.item c.self.invariant.sound.agrees
    (subst (λ (w : WorldState). IsNext w.net.pending c.args.time c.args.item) (sym c.self.view_is) c.requires)

pub returns-clause-act : goal.returns-clause-act
returns-clause-act c =
    subst (λ w. IsActOf c.args.item w c.act_of.result) c.self.view_is c.act_of.ensures.act

use Rattle.std.proofs.lemmas.Option.{none-some}
use Rattle.gptp_world.proofs.ActTargetLemmas.{no_system, system_found}
use Rattle.gptp_world.proofs.world_parts.WorldParts.system_at.Goals as goal

pub returns-in-Some-clause-some : goal.returns-in-Some-clause-some
returns-in-Some-clause-some c =
    system_found c.args.self.now c.args.clock c.in-Some.place c.requires c.in-Some.ensures.some

pub returns-in-None-clause-none : goal.returns-in-None-clause-none
returns-in-None-clause-none c =
    no_system c.args.self.now c.args.clock c.requires
    (λ place there. none-some place (c.in-None.ensures.only place there))

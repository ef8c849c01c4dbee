use Rattle.std.proofs.Common.{true, false, [], refl}
use Rattle.gptp_model.specs.Changing.{FailsIf}
use Rattle.gptp_world.specs.WorldParts.{world_of}
use Rattle.gptp_world.proofs.PerformingLemmas.{of_system}
use Rattle.gptp_world.proofs.world_parts.WorldParts.fail_if_live.Goals as goal

pub returns-then-index-clause-failed : goal.returns-then-index-clause-failed
returns-then-index-clause-failed c =
    of_system c.args.self.now c.args.place c.index.result.now true
    (λ live station. FailsIf live c.args.place station (world_of c.args.self.now) [] (world_of c.fail.new.self))
    c.index.ensures c.if-index.true (λ station here. (refl, c.fail.ensures.failed station here))

pub returns-else-index-clause-failed : goal.returns-else-index-clause-failed
returns-else-index-clause-failed c =
    of_system c.args.self.now c.args.place c.index.result.now false
    (λ live station. FailsIf live c.args.place station (world_of c.args.self.now) [] (world_of c.args.self.now))
    c.index.ensures c.if-index.false (λ station here. (refl, refl))

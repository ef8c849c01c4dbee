use Rattle.std.proofs.Common.{◌<◌, arith}
use Rattle.std.proofs.lemmas.Bool.Decides.{nat_tests}
use Rattle.gptp_world.proofs.CheckLemmas.{next_earlier}
use Rattle.gptp_world.proofs.world_parts.WorldParts.is_first.Goals as goal

pub returns-in-Some-clause-earlier : goal.returns-in-Some-clause-earlier
returns-in-Some-clause-earlier c = λ late.
    let less : c.in-Some.due < c.args.time = grind (arith, nat_tests, late) in
    next_earlier c.args.self.now.net.traffic.net.pending c.in-Some.due c.args.time _ c.in-Some.ensures.next less

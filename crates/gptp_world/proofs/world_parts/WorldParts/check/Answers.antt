use Rattle.std.proofs.Common.{refl, arith}
use Rattle.std.proofs.lemmas.Bool.Decides.{nat_tests}
use Rattle.gptp_world.specs.WorldParts.{world_of}
use Rattle.gptp_world.proofs.CheckLemmas.{aim_there}
use Rattle.gptp_world.proofs.world_parts.WorldParts.check.Goals as goal

pub returns-in-false-clause-refused : goal.returns-in-false-clause-refused
returns-in-false-clause-refused c = (
  record {
    now = let test = c.if-timed-self.false in grind (arith, nat_tests, test);
    first = c.if-not-is_first.ensures.first refl;
  },
  (
    aim_there c.args.timed.now.act (world_of c.args.self.now) c.in-Some.target c.in-Some.ensures.some,
    λ due.
        let told = c.in-false.ensures.1 due in absurd cc,
  ),
)

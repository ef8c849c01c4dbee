use Rattle.std.proofs.Common.{ap, ◌∙◌}
use Rattle.gptp_messages.specs.Grammar.{Written}
use Rattle.gptp_system.specs.State.{trace}
use Rattle.gptp_world.proofs.octets.carried.Goals as goal

pub returns-in-Some-clause-is : goal.returns-in-Some-clause-is
returns-in-Some-clause-is c = c.of_sent.ensures.items ∙ ap Written (c.in-Some.ensures.is (trace c.args.system.now))

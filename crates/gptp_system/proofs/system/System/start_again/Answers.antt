use Rattle.gptp_system.proofs.SystemLemmas.{starts_system}
use Rattle.gptp_system.proofs.system.System.start_again.Goals as goal

pub invariant_of-self : goal.invariant_of-self
invariant_of-self c =
    rw c.start_again.ensures.started
    (starts_system c.args.setup c.args.now (rw c.start_again.ensures.started at c.start_again.ensures.ready))

use Rattle.gptp_system.proofs.SystemLemmas.{starts_system}
use Rattle.gptp_system.proofs.system.System.new.Goals as goal

pub invariant_of-result : goal.invariant_of-result
invariant_of-result c =
    rw c.in_ok-state.ensures.started
    (starts_system c.args.setup c.args.now (rw c.in_ok-state.ensures.started at c.in_ok-state.ensures.ready))

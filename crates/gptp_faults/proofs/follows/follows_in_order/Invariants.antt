-- Those before what is left are told of, and each time less is left.
use Rattle.std.proofs.Common.{length}
use Rattle.gptp_faults.proofs.RootLemmas.{AreToldBefore}
use Rattle.gptp_faults.proofs.follows.follows_in_order.Given as goal

abbrev pub invariant-loop-root : goal.invariant-loop-root
invariant-loop-root l = AreToldBefore l.roots l.rest l.follows.items

abbrev pub decreases-loop-root : goal.decreases-loop-root
decreases-loop-root l = length l.rest

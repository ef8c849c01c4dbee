use Rattle.gptp_correction.proofs.CarryLemmas.{Went}
use Rattle.gptp_correction.proofs.hops.carry.Given as goal

abbrev pub invariant-loop-bridge : goal.invariant-loop-bridge
invariant-loop-bridge l = Went l.hops l.bridge-index l.carried

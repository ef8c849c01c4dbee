use Rattle.gptp_checker.specs.Located.{IsKnownLine}
use Rattle.gptp_checker.proofs.EachLemmas.{HoldBefore}
use Rattle.gptp_checker.proofs.systems.least_strange.Given as goal

-- the lines before are known
abbrev pub invariant-loop-place : goal.invariant-loop-place
invariant-loop-place l = HoldBefore (IsKnownLine l.snapshot) l.certificate.lines l.place

use Rattle.gptp_checker.specs.Faults.{later_faults}
use Rattle.gptp_checker.proofs.EachLemmas.{HoldBefore}
use Rattle.gptp_checker.proofs.FaultLemmas.{IsAbsent}
use Rattle.gptp_checker.proofs.acceptance.accepts.Given as goal

-- the faults before are absent
abbrev pub invariant-loop-fault : goal.invariant-loop-fault
invariant-loop-fault l =
    HoldBefore (IsAbsent l.fn.certificate.version l.fn.snapshot l.fn.certificate.lines) later_faults
    l.fault-index

use Rattle.gptp_checker.specs.LineTests.{PassesLine}
use Rattle.gptp_checker.proofs.EachLemmas.{HoldBefore}
use Rattle.gptp_checker.proofs.lines.first_failing.Given as goal

-- the lines before pass
abbrev pub invariant-loop-place : goal.invariant-loop-place
invariant-loop-place l =
    HoldBefore (PassesLine l.fn.test l.fn.snapshot l.fn.certificate.lines) l.fn.certificate.lines l.place

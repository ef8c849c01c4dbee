use Rattle.gptp_checker.specs.Located.{IsFirstUpTo}
use Rattle.gptp_checker.proofs.links.first_end.Given as goal

-- the first end of the links before
abbrev pub invariant-loop-place : goal.invariant-loop-place
invariant-loop-place l = IsFirstUpTo l.fn.snapshot l.fn.certificate.lines l.place l.first

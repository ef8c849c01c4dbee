use Rattle.std.proofs.Common.{◌≢◌}
use Rattle.gptp_graph.specs.Labelling.{SystemLine}
use Rattle.gptp_checker.proofs.EachLemmas.{HoldBefore}
use Rattle.gptp_checker.proofs.systems.is_stated.Given as goal

-- the lines before have other clocks
abbrev pub invariant-loop-place : goal.invariant-loop-place
invariant-loop-place l = HoldBefore (λ (line : SystemLine). line.clock ≢ l.fn.clock) l.fn.certificate.lines l.place

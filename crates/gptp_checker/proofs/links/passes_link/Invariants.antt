use Rattle.gptp_graph.specs.Snapshot.{Link}
use Rattle.gptp_checker.specs.LineTests.{AgreeOver}
use Rattle.gptp_checker.proofs.EachLemmas.{HoldBefore}
use Rattle.gptp_checker.proofs.links.passes_link.Given as goal

-- what is stated agrees across the links before
abbrev pub invariant-loop-place : goal.invariant-loop-place
invariant-loop-place l =
    HoldBefore (λ (link : Link). AgreeOver l.fn.certificate.lines link.a.clock link.b.clock) l.fn.snapshot.links l.place

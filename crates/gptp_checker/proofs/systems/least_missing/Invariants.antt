use Rattle.gptp_graph.specs.Labelling.{line_clocks}
use Rattle.gptp_graph.specs.Snapshot.{System}
use Rattle.gptp_lists.specs.Members.{In}
use Rattle.gptp_checker.proofs.EachLemmas.{HoldBefore}
use Rattle.gptp_checker.proofs.systems.least_missing.Given as goal

-- the systems before have lines
abbrev pub invariant-loop-place : goal.invariant-loop-place
invariant-loop-place l =
    HoldBefore (λ (s : System). In s.clock (line_clocks l.certificate.lines)) l.snapshot.systems l.place

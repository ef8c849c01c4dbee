use Rattle.gptp_certificate_text.specs.Certificate.{line_of, parent_of}
use Rattle.gptp_graph.specs.Labelling.{PortLine}
use Rattle.gptp_checker.specs.LineTests.{IsNoLower}
use Rattle.gptp_checker.proofs.EachLemmas.{HoldBefore}
use Rattle.gptp_checker.proofs.ties.first_lower.Given as goal

-- none of the ports before goes before the parent's
abbrev pub invariant-loop-port : goal.invariant-loop-port
invariant-loop-port l =
    HoldBefore (λ (port : PortLine). IsNoLower l.fn.snapshot l.fn.certificate.lines (line_of l.fn.line)
    (parent_of (l.fn.own_port, l.fn.parent)) port.number) (line_of l.fn.line).ports l.port-index

use Rattle.gptp_certificate_text.specs.Certificate.{line_of}
use Rattle.gptp_graph.specs.Labelling.{PortLine}
use Rattle.gptp_graph.specs.LocalTests.{HasStatedRole}
use Rattle.gptp_checker.proofs.EachLemmas.{HoldBefore}
use Rattle.gptp_checker.proofs.roles.wrong_role.Given as goal

-- the ports before have their roles
abbrev pub invariant-loop-port : goal.invariant-loop-port
invariant-loop-port l =
    HoldBefore (λ (port : PortLine).
    HasStatedRole l.fn.snapshot l.fn.certificate.lines (line_of l.fn.line) port.number port.role)
    (line_of l.fn.line).ports l.port-index

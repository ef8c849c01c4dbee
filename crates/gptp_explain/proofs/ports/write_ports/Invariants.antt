use Rattle.std.proofs.Common.{drop, string_bytes}
use Rattle.gptp_checker.specs.Places.{numbers_of}
use Rattle.gptp_explain.proofs.PortLinesLemmas.{HaveBegun}
use Rattle.gptp_explain.proofs.ports.write_ports.Given as goal

-- the lines of the first ports are written
abbrev pub invariant-loop-port : goal.invariant-loop-port
invariant-loop-port l =
    HaveBegun l.document l.at l.snapshot l.line.clock (numbers_of l.line.ports.items)
    (numbers_of (drop l.port-index l.line.ports.items)) (string_bytes l.initial.text) (string_bytes l.text)

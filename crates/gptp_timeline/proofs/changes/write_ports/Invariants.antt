-- The lines of the ports before this one are written.
use Rattle.std.proofs.Common.{◌+◌, drop}
use Rattle.std.specs.Prelude.{string_bytes}
use Rattle.gptp_timeline.specs.Changes.{port_lines}
use Rattle.gptp_timeline.proofs.LineLemmas.{WrittenSoFar}
use Rattle.gptp_timeline.proofs.changes.write_ports.Given as goal

abbrev pub invariant-loop-place : goal.invariant-loop-place
invariant-loop-place l = WrittenSoFar (port_lines l.at l.clock 1 l.before l.ports)
    (port_lines l.at l.clock (l.place + 1) (drop l.place l.before) (drop l.place l.ports))
    (string_bytes l.initial.text) (string_bytes l.text)

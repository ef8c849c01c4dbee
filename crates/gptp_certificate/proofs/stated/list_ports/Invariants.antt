use Rattle.std.proofs.Common.{◌≡◌, map}
use Rattle.std.specs.List.{range_with_len}
use Rattle.gptp_certificate_text.specs.Certificate.{port_line_of}
use Rattle.gptp_certificate.specs.Stated.{stated_port}
use Rattle.gptp_certificate.proofs.stated.list_ports.Given as goal

-- the ports before the place are there
abbrev pub invariant-loop-place : goal.invariant-loop-place
invariant-loop-place l = map port_line_of l.ports.items ≡ map (stated_port l.system) (range_with_len 1 l.place)

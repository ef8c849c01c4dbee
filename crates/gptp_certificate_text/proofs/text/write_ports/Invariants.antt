use Rattle.std.proofs.Common.{◌≡◌, ◌++◌, drop, map, string_bytes}
use Rattle.gptp_words.specs.Lines.{text_of}
use Rattle.gptp_certificate_text.specs.Certificate.{port_line_of}
use Rattle.gptp_certificate_text.specs.CertificateText.{entry_text}
use Rattle.gptp_certificate_text.specs.Entries.{PortEntry}
use Rattle.gptp_certificate_text.proofs.text.write_ports.Given as goal

-- what is written and the lines of the ports that are left are all that should be written
abbrev pub invariant-loop-port : goal.invariant-loop-port
invariant-loop-port l =
    string_bytes l.text
    ++ text_of (map (λ port. entry_text (PortEntry l.clock (port_line_of port))) (drop l.port-index l.ports))
    ≡ string_bytes l.initial.text ++ text_of (map (λ port. entry_text (PortEntry l.clock (port_line_of port))) l.ports)

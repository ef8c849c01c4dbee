use Rattle.std.proofs.Common.{◌≡◌, ◌+◌, ◌-◌, ◌≤◌, ◌++◌, map, string_bytes}
use Rattle.std.specs.List.{range_with_len}
use Rattle.gptp_words.specs.Lines.{text_of}
use Rattle.gptp_report.specs.SystemLines.{port_line}
use Rattle.gptp_report.proofs.system_lines.write_ports.Given as goal

-- the lines of the ports below this one are appended
abbrev pub invariant-loop-port : goal.invariant-loop-port
invariant-loop-port l =
    (l.port ≤ l.port-end + 1)
    × (string_bytes l.text
    ≡ string_bytes l.initial.text ++ text_of (map (port_line l.clock l.system) (range_with_len 1 (l.port - 1))))

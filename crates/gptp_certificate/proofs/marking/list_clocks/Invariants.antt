use Rattle.std.proofs.Common.{◌≡◌, take}
use Rattle.gptp_certificate_text.specs.Certificate.{lines_of}
use Rattle.gptp_graph.specs.Labelling.{line_clocks}
use Rattle.gptp_certificate.proofs.marking.list_clocks.Given as goal

abbrev pub invariant-loop-line : goal.invariant-loop-line
invariant-loop-line l = l.clocks.items ≡ line_clocks (lines_of (take l.line-index l.lines))

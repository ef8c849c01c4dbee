use Rattle.std.proofs.Common.{◌≡◌, take}
use Rattle.gptp_certificate_text.specs.Certificate.{lines_of}
use Rattle.gptp_certificate.specs.Marking.{line_roots}
use Rattle.gptp_certificate.proofs.marking.list_roots.Given as goal

abbrev pub invariant-loop-line : goal.invariant-loop-line
invariant-loop-line l = l.roots.items ≡ line_roots (lines_of (take l.line-index l.lines))

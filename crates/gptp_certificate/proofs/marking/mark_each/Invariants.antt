use Rattle.gptp_certificate_text.specs.Certificate.{lines_of}
use Rattle.gptp_certificate.specs.Marking.{LinesAreMarked}
use Rattle.gptp_certificate.proofs.marking.mark_each.Given as goal

abbrev pub invariant-loop-place : goal.invariant-loop-place
invariant-loop-place l =
    LinesAreMarked l.place l.lowest l.links (lines_of l.initial.lines.items) (lines_of l.lines.items)

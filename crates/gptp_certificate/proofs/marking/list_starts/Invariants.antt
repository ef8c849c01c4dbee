use Rattle.gptp_certificate_text.specs.Certificate.{lines_of}
use Rattle.gptp_certificate.proofs.MarkingLemmas.{AreStartsBefore}
use Rattle.gptp_certificate.proofs.marking.list_starts.Given as goal

abbrev pub invariant-loop-place : goal.invariant-loop-place
invariant-loop-place l = AreStartsBefore l.place l.lowest (lines_of l.lines) l.starts.items

-- The lines of the first systems.
use Rattle.gptp_certificate_text.specs.Certificate.{lines_of}
use Rattle.gptp_choice.specs.Lines.{AreFirstLines}
use Rattle.gptp_choice.proofs.choice.settled_lines.Given as goal

abbrev pub invariant-loop-place : goal.invariant-loop-place
invariant-loop-place l = AreFirstLines l.snapshot l.place (lines_of l.lines.items)

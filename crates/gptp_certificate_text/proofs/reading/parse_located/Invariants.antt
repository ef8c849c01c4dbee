use Rattle.std.proofs.Common.{length}
use Rattle.gptp_certificate_text.specs.Certificate.{lines_of}
use Rattle.gptp_certificate_text.specs.Entries.{entries_of}
use Rattle.gptp_certificate_text.specs.Parsing.{StandBefore}
use Rattle.gptp_certificate_text.proofs.reading.parse_located.Given as goal

-- the lines that are read stand before the rest
abbrev pub invariant-loop-rest : goal.invariant-loop-rest
invariant-loop-rest l = StandBefore l.version (entries_of (lines_of l.lines.items)) l.rest l.text

abbrev pub decreases-loop-rest : goal.decreases-loop-rest
decreases-loop-rest l = length l.rest

use Rattle.gptp_certificate_text.specs.Certificate.{lines_of}
use Rattle.gptp_certificate_text.specs.Entries.{entries_of}
use Rattle.gptp_certificate_text.proofs.ReadingLemmas.{rest_fails}
use Rattle.gptp_certificate_text.proofs.reading.read_line.Goals as goal

pub returns-in-Err-clause-refused : goal.returns-in-Err-clause-refused
returns-in-Err-clause-refused c =
    rest_fails c.args.version (entries_of (lines_of c.args.lines.now.items)) c.args.rest.now c.in_ok-line.line.now
    c.in_ok-line.more.now c.in-Err.fault c.requires.goes_on c.in_ok-line.ensures.found c.in_ok-line.ensures.first
    c.in-Err.ensures.refused

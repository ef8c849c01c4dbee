use Rattle.gptp_certificate_text.proofs.ReadingLemmas.{fails_somewhere}
use Rattle.gptp_certificate_text.proofs.reading.parse.Goals as goal

pub returns-in-Err-clause-refused : goal.returns-in-Err-clause-refused
returns-in-Err-clause-refused c =
    fails_somewhere c.args.text.now c.in-Err.field-0-1.now c.in-Err.fault c.in-Err.ensures.refused

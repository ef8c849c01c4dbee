use Rattle.std.proofs.Common.{sym}
use Rattle.gptp_certificate_text.specs.Certificate.{line_of}
use Rattle.gptp_lists.proofs.SystemSpecLemmas.{In-slice_get}
use Rattle.gptp_checker.proofs.lines.passes_at.Goals as goal

pub passes-requires-clause-stated : goal.passes-requires-clause-stated
passes-requires-clause-stated c =
    In-slice_get (line_of c.in-Some.line.now) c.args.certificate.now.lines c.args.place (sym c.in-Some.ensures)

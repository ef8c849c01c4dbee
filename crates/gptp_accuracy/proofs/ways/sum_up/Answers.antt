use Rattle.std.proofs.Common.{sym}
use Rattle.gptp_lists.proofs.SystemSpecLemmas.{In-slice_get}
use Rattle.gptp_certificate_text.specs.Certificate.{line_of}
use Rattle.gptp_accuracy.proofs.ways.sum_up.Goals as goal

pub sums_to-to-requires-clause-settled : goal.sums_to-to-requires-clause-settled
sums_to-to-requires-clause-settled c =
    c.requires.choice.settled (line_of c.in-Some.line.now)
    (In-slice_get (line_of c.in-Some.line.now) c.args.certificate.now.lines c.args.place (sym c.in-Some.ensures))

pub sums_to-to-requires-clause-bare : goal.sums_to-to-requires-clause-bare
sums_to-to-requires-clause-bare c =
    c.well_formed-2.ensures.bare (line_of c.in-Some.line.now)
    (In-slice_get (line_of c.in-Some.line.now) c.args.certificate.now.lines c.args.place (sym c.in-Some.ensures))

pub sums_to-to-requires-clause-parent : goal.sums_to-to-requires-clause-parent
sums_to-to-requires-clause-parent c =
    rw c.deref.ensures.value (c.requires.parent (line_of c.in-Some.line.now) (sym c.in-Some.ensures))

use Rattle.std.proofs.Common.{arith}
use Rattle.gptp_certificate_text.specs.Lines.{form_of}
use Rattle.gptp_certificate_text.proofs.LineLemmas.{unfit}
use Rattle.gptp_certificate_text.proofs.form.read_form.Goals as goal

pub returns-else-fits_here-clause-absent : goal.returns-else-fits_here-clause-absent
returns-else-fits_here-clause-absent c =
    unfit c.args.version c.args.after_far c.args.line.now (form_of c.in_ok-form.form) c.in_ok-form.ensures.words
    c.in_ok-form.ensures.found (λ h. let t = c.if-fits_here.ensures.1 h in absurd (grind arith))

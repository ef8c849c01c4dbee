use Rattle.std.proofs.Common.{Some, refl, sym, ap, ◌∙◌}
use Rattle.gptp_certificate_text.specs.Certificate.{line_of}
use Rattle.gptp_graph.specs.Labelling.{SystemLine}
use Rattle.gptp_graph.proofs.StatementLemmas.{same_line}
use Rattle.gptp_checker.proofs.stated.steps_of.Goals as goal

pub returns-in_err-line_of-clause-only : goal.returns-in_err-line_of-clause-only
returns-in_err-line_of-clause-only c = λ d (line, stated, has, e).
    absurd (c.in_err-line_of.ensures.none line (record { stated = stated; has = has }))

pub returns-clause-some : goal.returns-clause-some
returns-clause-some c =
    let at = c.in_ok-line_of.ensures.some in
    (line_of c.in_ok-line_of.field-0.now, at.stated, at.has, refl)

pub returns-clause-only : goal.returns-clause-only
returns-clause-only c = λ d (line, stated, has, e).
    let at = c.in_ok-line_of.ensures.some in
    let same =
    same_line c.args.snapshot.now c.args.certificate.now.lines (line_of c.in_ok-line_of.field-0.now) line c.requires
    at.stated stated (at.has ∙ sym has) in
    ap (λ n. Some n) (ap (λ (l : SystemLine). l.steps) same ∙ e)

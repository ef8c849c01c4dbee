use Rattle.gptp_certificate_text.specs.Certificate.{line_of}
use Rattle.gptp_checker.proofs.StatedLemmas.{nearer_by, no_nearer}
use Rattle.gptp_checker.proofs.roles.is_nearer.Goals as goal

pub returns-in-Some : goal.returns-in-Some
returns-in-Some c =
    nearer_by c.args.certificate.now.lines (line_of c.args.line.now) c.args.other c.in-Some.there c.goes_before.result
    c.in-Some.ensures.some c.in-Some.ensures.only c.goes_before.ensures

pub returns-in-None : goal.returns-in-None
returns-in-None c = (
  (λ t. absurd cc),
  no_nearer c.args.certificate.now.lines (line_of c.args.line.now) c.args.other c.in-None.ensures.only,
)

use Rattle.std.proofs.Common.{refl}
use Rattle.gptp_certificate_text.specs.Certificate.{line_of}
use Rattle.gptp_checker.proofs.StatedLemmas.{agree_by}
use Rattle.gptp_checker.proofs.links.agree_over.Goals as goal

pub returns-in_default : goal.returns-in_default
returns-in_default c = ((λ t one other i j. absurd (c.in_default.ensures.none one i)), (λ h. refl))

pub returns-in-Some-line_of : goal.returns-in-Some-line_of
returns-in-Some-line_of c =
    agree_by c.args.snapshot.now c.args.certificate.now.lines c.args.one c.args.other (line_of c.in-Some.here.now)
    (line_of c.in-Some-line_of.there.now) c.agree_across.result c.requires c.in-Some.ensures.some
    c.in-Some-line_of.ensures.some c.agree_across.ensures

pub returns-in-None : goal.returns-in-None
returns-in-None c = ((λ t one other i j. absurd (c.in-None.ensures.none other j)), (λ h. refl))

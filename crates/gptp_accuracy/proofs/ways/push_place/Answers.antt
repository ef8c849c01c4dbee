use Rattle.std.proofs.Common.{sym}
use Rattle.gptp_certificate_text.specs.Certificate.{line_of}
use Rattle.gptp_accuracy.proofs.PassLemmas.{place_added}
use Rattle.gptp_accuracy.proofs.ways.push_place.Goals as goal

pub returns-in_ok-push : goal.returns-in_ok-push
returns-in_ok-push c =
    rw c.in_ok-push.ensures.items (place_added c.args.certificate.now.lines c.args.place c.args.places.now.items
    (line_of c.in-Some.line.now) c.requires (sym c.in-Some.ensures))

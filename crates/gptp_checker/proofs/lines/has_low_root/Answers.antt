use Rattle.gptp_certificate_text.specs.Certificate.{line_of}
use Rattle.gptp_checker.proofs.StatedLemmas.{at_most_by, has_identity, low_root_by}
use Rattle.gptp_checker.proofs.lines.has_low_root.Goals as goal

pub returns-in-Some : goal.returns-in-Some
returns-in-Some c =
    low_root_by c.args.snapshot.now (line_of c.args.line.now) c.in-Some.identity c.le.result c.requires
    c.in-Some.ensures.only (at_most_by c.args.line.now.root c.in-Some.identity c.le.result c.le.ensures)

pub returns-in-None : goal.returns-in-None
returns-in-None c = has_identity c.args.snapshot.now c.args.line.now.clock c.requires c.in-None.ensures.only

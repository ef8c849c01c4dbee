use Rattle.std.proofs.Common.{ap, option_map}
use Rattle.gptp_certificate_text.specs.Certificate.{line_of, parent_of}
use Rattle.gptp_checker.specs.LineTests.{FollowsParent}
use Rattle.gptp_checker.proofs.StatedLemmas.{of_parent}
use Rattle.gptp_checker.proofs.lines.follows_parent.Goals as goal

pub returns-in-Some : goal.returns-in-Some
returns-in-Some c =
    of_parent (line_of c.args.line.now).parent (parent_of (c.in-Some.port, c.in-Some.parent))
    (FollowsParent c.args.snapshot.now c.args.certificate.now.lines c.args.line.now.clock c.args.line.now.steps)
    c.follows.result (ap (option_map parent_of) c.in-Some.is) c.follows.ensures

use Rattle.gptp_graph.specs.Snapshot.{Link}
use Rattle.gptp_network.specs.Snapshot.{link_of}
use Rattle.gptp_checker.specs.LineTests.{AgreeOver}
use Rattle.gptp_checker.proofs.EachLemmas.{of_that}
use Rattle.gptp_checker.proofs.links.agree_at.Goals as goal

pub returns-in-Some : goal.returns-in-Some
returns-in-Some c =
    of_that c.args.snapshot.now.links c.args.place (link_of (c.in-Some.a, c.in-Some.b))
    (λ (link : Link). AgreeOver c.args.certificate.now.lines link.a.clock link.b.clock) c.agree_over.result
    c.in-Some.ensures
    c.agree_over.ensures

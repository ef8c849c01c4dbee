use Rattle.gptp_network.specs.Snapshot.{port_identity}
use Rattle.gptp_checker.proofs.StatedLemmas.{joins_by}
use Rattle.gptp_checker.proofs.stated.joins.Goals as goal

pub returns-in-Some : goal.returns-in-Some
returns-in-Some c =
    joins_by c.args.snapshot.now (port_identity c.args.one) (port_identity c.in-Some.end) (port_identity c.args.other)
    c.eq.result c.well_formed-2.ensures.network c.in-Some.ensures.some c.eq.ensures

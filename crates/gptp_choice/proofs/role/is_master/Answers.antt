use Rattle.gptp_network.specs.Snapshot.{port_identity}
use Rattle.gptp_choice.proofs.RoleLemmas.{master_by, other_lives}
use Rattle.gptp_choice.proofs.role.is_master.Goals as goal

pub returns-in-Some : goal.returns-in-Some
returns-in-Some c =
    master_by c.args.snapshot.now c.well_formed-2.ensures.network (port_identity c.args.own.now)
    (port_identity c.args.there.now) c.requires.joins c.args.steps c.requires.steps c.in-Some.beyond.steps
    c.goes_before.result
    c.in-Some.ensures.some.steps c.goes_before.ensures

pub returns-in-None : goal.returns-in-None
returns-in-None c =
    absurd (c.in-None.ensures.none (other_lives c.args.snapshot.now c.well_formed-2.ensures.network
    (port_identity c.args.own.now) (port_identity c.args.there.now) c.requires.joins c.args.steps c.requires.steps))

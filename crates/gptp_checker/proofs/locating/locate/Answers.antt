use Rattle.gptp_checker.specs.declared.line_test.LineTest.TheVariants.{TooFar, Root, Steps, Parent, Identity, Tie, Role}
use Rattle.gptp_checker.proofs.LocatedLemmas.{absent_by}
use Rattle.gptp_checker.proofs.locating.locate.Goals as goal

pub returns-in-TooFar-clause-none : goal.returns-in-TooFar-clause-none
returns-in-TooFar-clause-none c =
    absent_by c.args.certificate.now.version c.args.snapshot.now c.args.certificate.now.lines c.args.fault TooFar
    c.at_line.result c.well_formed-2.ensures.network c.requires c.in-TooFar.is c.at_line.ensures.none

pub returns-in-Root-clause-none : goal.returns-in-Root-clause-none
returns-in-Root-clause-none c =
    absent_by c.args.certificate.now.version c.args.snapshot.now c.args.certificate.now.lines c.args.fault Root
    c.at_line-in-Root.result c.well_formed-2.ensures.network c.requires c.in-Root.is c.at_line-in-Root.ensures.none

pub returns-in-Steps-clause-none : goal.returns-in-Steps-clause-none
returns-in-Steps-clause-none c =
    absent_by c.args.certificate.now.version c.args.snapshot.now c.args.certificate.now.lines c.args.fault Steps
    c.at_line-in-Steps.result c.well_formed-2.ensures.network c.requires c.in-Steps.is c.at_line-in-Steps.ensures.none

pub returns-in-Parent-clause-none : goal.returns-in-Parent-clause-none
returns-in-Parent-clause-none c =
    absent_by c.args.certificate.now.version c.args.snapshot.now c.args.certificate.now.lines c.args.fault Parent
    c.locate_parent.result c.well_formed-2.ensures.network c.requires c.in-Parent.is c.locate_parent.ensures.none

pub returns-in-Identity-clause-none : goal.returns-in-Identity-clause-none
returns-in-Identity-clause-none c =
    absent_by c.args.certificate.now.version c.args.snapshot.now c.args.certificate.now.lines c.args.fault Identity
    c.at_line-in-Identity.result c.well_formed-2.ensures.network c.requires c.in-Identity.is
    c.at_line-in-Identity.ensures.none

pub returns-in-Tie-clause-none : goal.returns-in-Tie-clause-none
returns-in-Tie-clause-none c =
    absent_by c.args.certificate.now.version c.args.snapshot.now c.args.certificate.now.lines c.args.fault Tie
    c.locate_tie.result c.well_formed-2.ensures.network c.requires c.in-Tie.is c.locate_tie.ensures.none

pub returns-in-Role-clause-none : goal.returns-in-Role-clause-none
returns-in-Role-clause-none c =
    absent_by c.args.certificate.now.version c.args.snapshot.now c.args.certificate.now.lines c.args.fault Role
    c.locate_role.result c.well_formed-2.ensures.network c.requires c.in-Role.is c.locate_role.ensures.none

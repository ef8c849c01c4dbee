use Rattle.std.proofs.Common.{ap, option_map, eq-eqb}
use Rattle.std.proofs.lemmas.Bool.{eqb-true}
use Rattle.gptp_certificate_text.specs.Certificate.{line_of, parent_of}
use Rattle.gptp_checker.proofs.StatedLemmas.{slave_by}
use Rattle.gptp_checker.proofs.roles.is_slave.Goals as goal

pub returns-in-Some : goal.returns-in-Some
returns-in-Some c =
    slave_by (line_of c.args.line.now) (parent_of (c.in-Some.own_port, c.in-Some.field-0-1)) c.args.number _
    (ap (option_map parent_of) c.in-Some.is)
    (eqb-true c.in-Some.own_port c.args.number, eq-eqb c.in-Some.own_port c.args.number)

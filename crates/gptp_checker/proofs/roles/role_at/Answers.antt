use Rattle.gptp_certificate_text.specs.Certificate.{line_of}
use Rattle.gptp_network.specs.Snapshot.{port_identity}
use Rattle.gptp_checker.proofs.StatedLemmas.{passive_role}
use Rattle.gptp_checker.proofs.roles.role_at.Goals as goal

pub returns-else-is_nearer : goal.returns-else-is_nearer
returns-else-is_nearer c =
    passive_role c.args.snapshot.now c.args.certificate.now.lines (line_of c.args.line.now) c.args.number
    (port_identity c.in-Some.other) c.well_formed-2.ensures.network c.in-Some.ensures.some
    (λ s. let t = c.if-is_slave.ensures.1 s in absurd cc)
    (λ n. let t = c.if-is_nearer.ensures.1 n in absurd cc)

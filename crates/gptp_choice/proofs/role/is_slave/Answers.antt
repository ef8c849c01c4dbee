use Rattle.std.proofs.Common.{ap, eq-eqb, option_map, subst}
use Rattle.std.proofs.lemmas.Bool.{eqb-true}
use Rattle.gptp_certificate_text.specs.Certificate.{parent_of}
use Rattle.gptp_graph.specs.SettledChoice.{IsParentIfAny}
use Rattle.gptp_network.specs.Snapshot.{port_identity}
use Rattle.gptp_choice.proofs.RoleLemmas.{no_slave, slave_by_parent}
use Rattle.gptp_choice.proofs.role.is_slave.Goals as goal

pub returns-in-Some : goal.returns-in-Some
returns-in-Some c =
    slave_by_parent c.args.snapshot.now (port_identity c.args.own.now)
    (parent_of (c.in-Some.own_port, c.in-Some.field-0-1)) _
    (subst (IsParentIfAny c.args.snapshot.now c.args.own.now.clock) (ap (option_map parent_of) c.in-Some.is) c.requires)
    (eqb-true c.in-Some.own_port c.args.own.now.port, eq-eqb c.in-Some.own_port c.args.own.now.port)

pub returns-in-None : goal.returns-in-None
returns-in-None c = (
  (λ t. absurd cc),
  (λ slave. absurd (no_slave c.args.snapshot.now (port_identity c.args.own.now)
      (subst (IsParentIfAny c.args.snapshot.now c.args.own.now.clock) (ap (option_map parent_of) c.in-None.is)
      c.requires) slave)),
)

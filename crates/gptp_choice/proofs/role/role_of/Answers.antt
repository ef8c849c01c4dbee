use Rattle.gptp_network.specs.Snapshot.{port_identity}
use Rattle.gptp_choice.proofs.role.role_of.Goals as goal

pub returns : goal.returns
returns c = (
  (port_identity c.in-Some.there, c.in-Some.ensures.some),
  (λ slave. let t = c.if-is_slave.ensures.1 slave in absurd cc),
  (λ master. let t = c.if-is_master.ensures.1 master in absurd cc),
)

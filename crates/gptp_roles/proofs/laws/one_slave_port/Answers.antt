use Rattle.gptp_roles.proofs.SlaveLemmas.{has_one_slave}
use Rattle.gptp_roles.proofs.laws.one_slave_port.Goals as goal

pub returns : goal.returns
returns c = has_one_slave

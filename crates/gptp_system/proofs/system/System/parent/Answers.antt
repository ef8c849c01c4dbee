use Rattle.gptp_system.specs.Ready.{state_of}
use Rattle.gptp_system.proofs.SystemLemmas.{system_slave}
use Rattle.gptp_system.proofs.system.System.parent.Goals as goal

pub parent-requires : goal.parent-requires
parent-requires c = system_slave (state_of c.self.inside.state) c.self.invariant

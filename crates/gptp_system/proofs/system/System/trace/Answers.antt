use Rattle.gptp_system.specs.Ready.{state_of}
use Rattle.gptp_system.proofs.SystemLemmas.{system_slave}
use Rattle.gptp_system.proofs.system.System.trace.Goals as goal

pub trace-requires : goal.trace-requires
trace-requires c = system_slave (state_of c.self.inside.state) c.self.invariant

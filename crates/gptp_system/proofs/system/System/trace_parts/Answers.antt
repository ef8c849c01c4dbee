use Rattle.gptp_system.specs.Ready.{state_of}
use Rattle.gptp_system.proofs.SystemLemmas.{system_slave}
use Rattle.gptp_system.proofs.system.System.trace_parts.Goals as goal

pub trace_parts-requires : goal.trace_parts-requires
trace_parts-requires c = system_slave (state_of c.self.inside.state) c.self.invariant

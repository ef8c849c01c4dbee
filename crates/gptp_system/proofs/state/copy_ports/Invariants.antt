use Rattle.std.proofs.Common.{◌≡◌, take}
use Rattle.gptp_system.proofs.state.copy_ports.Given as goal

abbrev pub invariant-loop-one : goal.invariant-loop-one
invariant-loop-one l = l.copies.items ≡ take l.one-index l.ports

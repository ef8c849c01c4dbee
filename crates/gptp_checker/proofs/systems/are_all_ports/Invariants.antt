use Rattle.std.proofs.Common.{◌≡◌, ◌<◌, ◌+◌, ℕ}
use Rattle.gptp_checker.proofs.PortLemmas.{port_at}
use Rattle.gptp_checker.proofs.systems.are_all_ports.Given as goal

-- the ports before have their places' numbers
abbrev pub invariant-loop-index : goal.invariant-loop-index
invariant-loop-index l = (i : ℕ) → i < l.index → (port_at l.ports i).0 ≡ i + 1
